-- Demand 1: what every call keeps, on any pool.
-- Rests on Calls, Refusals, the plans' reach and the pool's laws.
use Rattle.std.specs.Prelude.{◌*◌, ◌+◌, ◌-◌, ◌<◌, ◌≤◌, ℕ, true, List, ◌≡◌, refl, eqb, drop, length, None, Option, Some}
use Rattle.std.proofs.Common.{⊎_elim, ◌∙◌, subst, sym, length-append, length-drop, eqb-true, le-ltb, lt-ltb, ltb-false}
use Rattle.std.proofs.Math.Path.{ap, subst⁻¹}
use native.Mathlib.Omega.{arith}
use Rattle.std.proofs.Math.ListN.{get_or-append, get_or}
use Rattle.std.proofs.Math.Seq.{get_or-append-add, get_or-drop}
use Rattle.acts.specs.Acts.{Act}
use Rattle.acts.specs.Plans.{plan_get, plan_new, plan_page, plan_release, plan_set, refused}
use Rattle.acts.specs.StepPlans.{plan_step}
use Rattle.acts.specs.Told.{refused_as}
use Rattle.acts.specs.declared.Refusal.{Refusal}
use Rattle.acts.specs.Sight.{Sight}
use Rattle.bridge.specs.Asked.{Get, LookCell, LookEntry, LookLog, LookTask, LookVersion, New, Open, Page, Release, Report, Set, Step, asked}
use Rattle.layout.specs.Acts.{applied_answers, applied_done, applied_keeps, applied_not}
use Rattle.layout.specs.Calls.{called_in, release_in, start_get_in, start_new_in, start_page_in, start_set_in, step_in}
use Rattle.layout.specs.Header.{header_of, sizes_in, sizes_of}
use Rattle.layout.specs.Opened.{open-length, open_not, open-reply, open-rest}
use Rattle.layout.specs.Places.{Spans, block_base}
use Rattle.layout.specs.Pool.{InReach, applied_in, open_in, sight, touched_in}
use Rattle.layout.specs.Sizing.{header-spans}
use Rattle.rulebook.specs.Answers.{refusal, word}
use Rattle.rulebook.specs.declared.Reply.{Reply}
use Rattle.rulebook.specs.declared.Reply.TheVariants as reply
use Rattle.rulebook.specs.declared.Sizes.{Sizes}
use Rattle.rulebook.specs.History.{accepted}
use Rattle.rulebook.specs.Lists.{list_to-get, list_to-length}
use Rattle.rulebook.specs.Sizes.{block_words, opens}
use Rattle.rulebook.specs.State.{list_to}
use Rattle.rulebook.specs.Tests.{by_test}
use Rattle.work.specs.Reach.{get_reaches, new_reaches, page_reaches, release_reaches, set_reaches, step_reaches}
use Rattle.promises.specs.Promises.{AnswerLength, AnswerRest, PoolLength, PoolRest, RefusalKeeps, RefusalZeros, ShortSlice}
use Rattle.promises.proofs.Calls.{heard, spoken_case, spoken-long, spoken-short, telling}
use Rattle.promises.proofs.Refusals.{Fair, get-fair, new-fair, page-fair, release-fair, set-fair, step-fair}
use Rattle.promises.specs.Said.{Ask, Check, Outcome, Request, store_of, spoken}

-- ---- what a call does to the pool's words

-- q has as many words as p, and the same after the last block of a store of sizes d
pub record Inside (r : Option Sizes) (p q : List ℕ) : Type 0 where
  pub long : length q ≡ length p
  pub rest : (d : Sizes) → r ≡ Some d → (i : ℕ) → block_base d + block_words d.n * d.b ≤ i → get_or q i 0 ≡ get_or p i 0

-- one store has one end
end_same : (c d : Sizes) (i : ℕ) → ◌≡◌ {A = Option Sizes} (Some d) (Some c) → block_base c + block_words c.n * c.b ≤ i → block_base d + block_words d.n * d.b ≤ i
end_same c d i q l = subst (λ (x : Sizes). block_base x + block_words x.n * x.b ≤ i) (sym (ap sizes q)) l
  where
    sizes : Option Sizes → Sizes
    sizes None = d
    sizes (Some x) = x

inside-same : (r : Option Sizes) (p : List ℕ) → Inside r p p
inside-same r p = record { long = refl; rest = λ d e i l. refl }

-- refused, but not 10
abbrev Refuses : Reply → Type 0
Refuses r = (refusal r ≡ 0 → ⊥) × (refusal r ≡ 10 → ⊥)

accepts_not : (r : Reply) → accepted r ≡ true → Refuses r → ⊥
accepts_not r e h =
    by_test (eqb (refusal r) 0) (λ a. h.0 (eqb-true (refusal r) 0 a)) (λ a. h.1 (eqb-true (refusal r) 10 (rw a at e)))

refuses-zeros : (r : Reply) → Refuses r → (j : ℕ) → word j r ≡ 0
refuses-zeros (reply.Refused n) h j = refl
refuses-zeros (reply.Full s) h j = absurd (h.1 refl)
refuses-zeros reply.Quiet h j = absurd (h.0 refl)
refuses-zeros (reply.Opened b) h j = absurd (h.0 refl)
refuses-zeros (reply.Handed i v) h j = absurd (h.0 refl)
refuses-zeros (reply.HandedLast s i v) h j = absurd (h.0 refl)
refuses-zeros (reply.Got s i v) h j = absurd (h.0 refl)
refuses-zeros (reply.Made s i) h j = absurd (h.0 refl)
refuses-zeros (reply.Shown x) h j = absurd (h.0 refl)
refuses-zeros (reply.ShownEntry x) h j = absurd (h.0 refl)
refuses-zeros (reply.ShownTask x) h j = absurd (h.0 refl)
refuses-zeros (reply.Reported i b) h j = absurd (h.0 refl)

-- a fair act that is refused, but not 10, has done nothing
applied_fair : (p : List ℕ) (d : Sizes) (a : Act) → Fair a → Refuses (applied_in p d a).1 → (applied_in p d a).0 ≡ p
applied_fair p d a f h =
    ⊎_elim
    (λ (e : accepted a.reply ≡ true).
    by_test (touched_in p d a.touch).1
    (λ y. absurd (accepts_not a.reply e (subst Refuses (ap (λ (z : List ℕ × Reply). z.1) (applied_done p d a y)) h)))
    (λ y. ap (λ (z : List ℕ × Reply). z.0) (applied_not p d a y)))
    (λ (e : (r : Refusal) × (a ≡ refused r)). ap (λ (x : Act). (applied_in p d x).0) e.1 ∙ ap (λ (z : List ℕ × Reply). z.0) (applied_answers p d (refused_as e.0)))
    f

-- a call by a plan
pub record Planned (p : List ℕ) (f : Sight → Act) : Type 0 where
  pub fair : (e : Sight) → Fair (f e)
  pub reach : (d : Sizes) → Spans d p → InReach d (f (sight p d))

pub record Careful (r : Option Sizes) (p : List ℕ) (z : List ℕ × Reply) : Type 0 where
  pub inside : Inside r p z.0
  pub keeps : Refuses z.1 → z.0 ≡ p

careful-called : (r : Option Sizes) (p : List ℕ) (f : Sight → Act) → header_of p ≡ r → Planned p f → Careful r p (called_in r p f)
unfolding called_in
careful-called None p f e g = record { inside = inside-same None p; keeps = λ _. refl }
careful-called (Some d) p f e g =
    let k = applied_keeps (header-spans p d e) (f (sight p d)) (g.reach d (header-spans p d e)) in
    record {
      inside = record { long = k.long; rest = λ c q i l. k.rest i (end_same c d i q l) };
      keeps = applied_fair p d (f (sight p d)) (g.fair (sight p d));
    }

-- a call that only looks
careful_look : (r : Option Sizes) (p : List ℕ) (a : Reply) → Careful r p (p, a)
careful_look r p a = record { inside = inside-same r p; keeps = λ _. refl }

careful-open : (p : List ℕ) (n h t : ℕ) → Careful (sizes_in n h t (length p)) p (open_in p n h t)
unfolding sizes_in
careful-open p n h t =
    by_test (opens n h t (length p))
    (λ o. record {
      inside = record { long = open-length p n h t o; rest = λ d e i l. open-rest p n h t o i (let m = end_same d (sizes_of n h t (length p)) i (rw o at e) l in omega arith) };
      keeps = λ z. absurd (z.0 (ap refusal (open-reply p n h t o)));
    })
    (λ o. rw (open_not p n h t o) (careful_look _ p (reply.Refused 3)))

careful : (x : Request) (p : List ℕ) → Careful (store_of x p) p (heard x p)
unfolding asked store_of start_new_in start_get_in start_set_in start_page_in step_in release_in
careful (Ask (Open n h t)) p = careful-open p n h t
careful (Ask (New t v)) p = careful-called (header_of p) p (λ e. plan_new e t v) refl (record { fair = new-fair t v; reach = λ d s. new_reaches p d s t v })
careful (Ask (Get t h i)) p = careful-called (header_of p) p (λ e. plan_get e t h i) refl (record { fair = get-fair t h i; reach = λ d s. get_reaches p d s t h i 0 })
careful (Ask (Set t h i v)) p = careful-called (header_of p) p (λ e. plan_set e t h i v) refl (record { fair = set-fair t h i v; reach = λ d s. set_reaches p d s t h i v })
careful (Ask (Page t h i m)) p = careful-called (header_of p) p (λ e. plan_page e t h i m) refl (record { fair = page-fair t h i m; reach = λ d s. page_reaches p d s t h i m })
careful (Ask (Step t)) p = careful-called (header_of p) p (λ e. plan_step e t) refl (record { fair = step-fair t; reach = λ d s. step_reaches p d s t })
careful (Ask (Release h)) p = careful-called (header_of p) p (λ e. plan_release e h) refl (record { fair = release-fair h; reach = λ d s. release_reaches p d s h })
careful (Ask (LookVersion b)) p = careful_look _ p _
careful (Ask (LookCell b i)) p = careful_look _ p _
careful (Ask (LookLog b i)) p = careful_look _ p _
careful (Ask (LookEntry b i j)) p = careful_look _ p _
careful (Ask (LookTask t)) p = careful_look _ p _
careful (Ask Report) p = careful_look _ p _
careful Check p = careful_look _ p _

-- ---- what is told in the answer slice

module _ (r : Reply) (a : List ℕ) where
  telling-word : (j : ℕ) → j < 16 → get_or (telling r a) j 0 ≡ word j r
  telling-word j l =
      get_or-append (list_to 16 (λ (i : ℕ). word i r)) (drop 16 a) 0 j (omega (arith, list_to-length 16 (λ (i : ℕ). word i r)))
      ∙ list_to-get 16 (λ (i : ℕ). word i r) j 0 l

  telling-rest : (j : ℕ) → 16 ≤ j → get_or (telling r a) j 0 ≡ get_or a j 0
  unfolding list_to
  telling-rest j l =
      let m = j - 16 in
      let e : j ≡ 16 + m = omega arith in
      ap (λ (i : ℕ). get_or (telling r a) i 0) e
      ∙ get_or-append-add (list_to 16 (λ (i : ℕ). word i r)) (drop 16 a) m 0
      ∙ get_or-drop 16 a m 0
      ∙ ap (λ (i : ℕ). get_or a i 0) (sym e)

  telling-length : 16 ≤ length a → length (telling r a) ≡ length a
  telling-length l =
      omega (arith, length-append (list_to 16 (λ (i : ℕ). word i r)) (drop 16 a), list_to-length 16 (λ (i : ℕ). word i r), length-drop 16 a)

-- ---- demand 1

pub pool_length : PoolLength spoken
pool_length x p a = spoken_case x p a (λ (z : Outcome). length z.0.0 ≡ length p) (λ _. refl) (λ _. (careful x p).inside.long)

pub pool_rest : PoolRest spoken
pool_rest x p a d g i l =
    spoken_case x p a (λ (z : Outcome). get_or z.0.0 i 0 ≡ get_or p i 0) (λ _. refl) (λ _. (careful x p).inside.rest d g i l)

pub answer_length : AnswerLength spoken
answer_length x p a =
    spoken_case x p a (λ (z : Outcome). length z.0.1 ≡ length a) (λ _. refl) (λ e. telling-length (heard x p).1 a (ltb-false (length a) 16 e))

pub answer_rest : AnswerRest spoken
answer_rest x p a j l =
    spoken_case x p a (λ (z : Outcome). get_or z.0.1 j 0 ≡ get_or a j 0) (λ _. refl) (λ _. telling-rest (heard x p).1 a j l)

pub short_slice : ShortSlice spoken
short_slice x p a l = spoken-short x p a (lt-ltb (length a) 16 l)

pub refusal_keeps : RefusalKeeps spoken
refusal_keeps x p a =
    spoken_case x p a (λ (z : Outcome). (z.1 ≡ 0 → ⊥) → (z.1 ≡ 10 → ⊥) → z.0.0 ≡ p) (λ _ _ _. refl) (λ _ u v. (careful x p).keeps (u, v))

pub refusal_zeros : RefusalZeros spoken
refusal_zeros x p a l =
    subst⁻¹ (λ (z : Outcome). (z.1 ≡ 0 → ⊥) → (z.1 ≡ 10 → ⊥) → (j : ℕ) → j < 16 → get_or z.0.1 j 0 ≡ 0) (spoken-long x p a (le-ltb (length a) 16 l))
    (λ u v j m. telling-word (heard x p).1 a j m ∙ refuses-zeros (heard x p).1 (u, v) j)
