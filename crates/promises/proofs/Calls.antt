-- Each call as C makes it is bridge's call or the check, told in the answer slice; with a short slice it is nothing.
-- Rests on Said.
use Rattle.std.specs.Prelude.{ℕ, false, true, List, ◌++◌, ◌≡◌, refl, ltb, drop, length}
use Rattle.std.proofs.Common.{◌∙◌}
use Rattle.std.proofs.Math.Path.{subst⁻¹}
use Rattle.survey.specs.Broken.{broken_in}
use Rattle.bridge.specs.Asked.{Get, LookCell, LookEntry, LookLog, LookTask, LookVersion, New, Open, Page, Release, Report, Set, Step, asked}
use Rattle.rulebook.specs.Answers.{refusal, word}
use Rattle.rulebook.specs.declared.Reply.{Reply}
use Rattle.rulebook.specs.declared.Reply.TheVariants as reply
use Rattle.rulebook.specs.State.{list_to}
use Rattle.rulebook.specs.Tests.{by_test}
use Rattle.winchclover.specs.Answered.{answered_in, said_in, shown_in}
use Rattle.promises.specs.Said.{Ask, Check, Outcome, Request, short, spoken}

-- a reply told in the slice a: its words and zeros in the first 16
abbrev pub telling : Reply → List ℕ → List ℕ
telling r a = list_to 16 (λ (j : ℕ). word j r) ++ drop 16 a

look_is : (f : List ℕ → Reply) (p a : List ℕ) → ((p, (shown_in f p a).0), (shown_in f p a).1) ≡ answered_in (λ (q : List ℕ). (q, f q)) p a
unfolding shown_in answered_in
look_is f p a = by_test (ltb (length a) 16) (λ e. rw e) (λ e. rw e)

-- the words that a request leaves, and its answer
abbrev pub heard : Request → List ℕ → List ℕ × Reply
heard (Ask x) p = asked x p
heard Check p = (p, reply.Shown (broken_in p))

spoken-is : (x : Request) (p a : List ℕ) → spoken x p a ≡ answered_in (heard x) p a
unfolding spoken asked
spoken-is (Ask (Open n h t)) p a = refl
spoken-is (Ask (New t v)) p a = refl
spoken-is (Ask (Get t h i)) p a = refl
spoken-is (Ask (Set t h i v)) p a = refl
spoken-is (Ask (Page t h from m)) p a = refl
spoken-is (Ask (Step t)) p a = refl
spoken-is (Ask (Release h)) p a = refl
spoken-is (Ask (LookVersion b)) p a = look_is _ p a
spoken-is (Ask (LookCell b i)) p a = look_is _ p a
spoken-is (Ask (LookLog b i)) p a = look_is _ p a
spoken-is (Ask (LookEntry b i j)) p a = look_is _ p a
spoken-is (Ask (LookTask t)) p a = look_is _ p a
spoken-is (Ask Report) p a = look_is _ p a
spoken-is Check p a = look_is _ p a

pub spoken-short : (x : Request) (p a : List ℕ) → short a ≡ true → spoken x p a ≡ ((p, a), 15)
unfolding answered_in
spoken-short x p a e = spoken-is x p a ∙ rw e

pub spoken-long : (x : Request) (p a : List ℕ) → short a ≡ false → spoken x p a ≡ (((heard x p).0, telling (heard x p).1 a), refusal (heard x p).1)
unfolding answered_in said_in
spoken-long x p a e = spoken-is x p a ∙ rw e

-- what holds in both cases
pub spoken_case : (x : Request) (p a : List ℕ) (P : Outcome → Type 0) → (short a ≡ true → P ((p, a), 15))
    → (short a ≡ false → P (((heard x p).0, telling (heard x p).1 a), refusal (heard x p).1)) → P (spoken x p a)
spoken_case x p a P f g =
    by_test (short a) (λ e. subst⁻¹ P (spoken-short x p a e) (f e)) (λ e. subst⁻¹ P (spoken-long x p a e) (g e))
