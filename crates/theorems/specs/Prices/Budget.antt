-- What the sets past their exchange may still spend, and what the blocks have saved: the potential of a state, and how one task and one block change it.
-- Rests on Digits and the invariant.
use Rattle.std.specs.Prelude.{◌*◌, ◌+◌, ◌-◌, ◌<◌, ◌≤◌, suc, zero, ℕ, true, List, [], ◌∷◌, ◌≡◌, refl, eqb, leb, get_or, length, set, if◌then◌else◌}
use Rattle.std.proofs.Common.{zero-le, ◌∙◌, ap, ap₂, subst, sym, not-suc-le-zero, arith, get_or-set_other, get_or-set_same, eqb-true}
use Rattle.rulebook.specs.declared.Entry.{Entry}
use Rattle.rulebook.specs.declared.Hand.{Hand}
use Rattle.rulebook.specs.declared.Progress.{Progress}
use Rattle.rulebook.specs.declared.Progress.TheVariants.{Going, Settled}
use Rattle.rulebook.specs.declared.Reading.{Reading}
use Rattle.rulebook.specs.declared.Reading.TheVariants.{Guess, Length, Probe, Version}
use Rattle.rulebook.specs.declared.Stage.{Stage}
use Rattle.rulebook.specs.declared.Stage.TheVariants.{Append, Copying, Exchange, FillCopy, FillNew, Getting, Idle, Paging, Put, Read, TakeCopy, TakeNew, Write}
use Rattle.rulebook.specs.declared.Task.{Task}
use Rattle.rulebook.specs.History.{one, probing}
use Rattle.rulebook.specs.State.{Block, State, block_at, idle, log_at, names, no_block, stood, task_at}
use Rattle.rulebook.specs.Steps.{get_step, here_of, probed}
use Rattle.rulebook.specs.Tests.{by_test, if_case}
use Rattle.theorems.specs.Invariant.Moves.{Goes, InvS}
use Rattle.theorems.specs.Invariant.Readings.{u_named}
use Rattle.theorems.specs.Invariant.Shape.{Shape}
use Rattle.theorems.specs.Prices.Digits.{Unsettled, digits_le, probe_less}
use Rattle.theorems.specs.Reading.Get.{probed-cell}
use Rattle.theorems.specs.Terms.{digits, entries}

-- ---- sums

-- f 0 + .. + f (n - 1)
unfoldable pub sum_to : ℕ → (ℕ → ℕ) → ℕ
sum_to zero f = 0
sum_to (suc n) f = f 0 + sum_to n (λ (j : ℕ). f (suc j))

pub sum_mono : (n : ℕ) (f g : ℕ → ℕ) → ((j : ℕ) → f j ≤ g j) → sum_to n f ≤ sum_to n g
unfolding sum_to
sum_mono zero f g h = zero-le
sum_mono (suc n) f g h = omega (arith, h 0, sum_mono n (λ (j : ℕ). f (suc j)) (λ (j : ℕ). g (suc j)) (λ j. h (suc j)))

pub sum-last : (n : ℕ) (f : ℕ → ℕ) → sum_to (suc n) f ≡ sum_to n f + f n
unfolding sum_to
sum-last zero f = omega arith
sum-last (suc n) f = omega (arith, sum-last n (λ (j : ℕ). f (suc j)))

pub sum-none : (n : ℕ) (f : ℕ → ℕ) → ((j : ℕ) → f j ≡ 0) → sum_to n f ≡ 0
unfolding sum_to
sum-none zero f h = refl
sum-none (suc n) f h = omega (arith, h 0, sum-none n (λ (j : ℕ). f (suc j)) (λ j. h (suc j)))

-- one place may rise, no other does
pub sum-change : (n t : ℕ) (f g : ℕ → ℕ) → t < n → ((u : ℕ) → (u ≡ t → ⊥) → g u ≤ f u) → sum_to n g + f t ≤ sum_to n f + g t
unfolding sum_to
sum-change zero t f g h le = absurd (not-suc-le-zero h)
sum-change (suc n) zero f g h le =
    omega (arith, sum_mono n (λ (j : ℕ). g (suc j)) (λ (j : ℕ). f (suc j)) (λ j. le (suc j) (λ e. omega arith)))
sum-change (suc n) (suc t) f g h le =
    omega (arith, le 0 (λ e. omega arith), sum-change n t (λ (j : ℕ). f (suc j)) (λ (j : ℕ). g (suc j)) (omega arith) (λ u d. le (suc u) (λ e. d (omega arith))))

-- ---- the entries of the cells passed

abbrev pub passed : Block → ℕ → ℕ
passed b i = sum_to i (λ (j : ℕ). length (log_at b j))

passed-logs : (i : ℕ) (ls : List (List Entry)) → sum_to i (λ (j : ℕ). length (get_or ls j [])) ≤ entries ls
unfolding sum_to entries
passed-logs zero ls = zero-le
passed-logs (suc i) [] = omega (arith, sum-none i (λ (j : ℕ). 0) (λ j. refl))
passed-logs (suc i) (l ∷ ls) = omega (arith, passed-logs i ls)

pub passed_total : (b : Block) (i : ℕ) → passed b i ≤ entries b.logs
passed_total b i = passed-logs i b.logs

pub passed-next : (b : Block) (i : ℕ) → passed b (i + 1) ≡ passed b i + length (log_at b i)
passed-next b i = ap (λ (x : ℕ). passed b x) (omega arith) ∙ sum-last i (λ (j : ℕ). length (log_at b j))

-- a log has at most the entries of its block
pub log-entries : (b : Block) (i : ℕ) → length (log_at b i) ≤ entries b.logs
log-entries b i = omega (arith, passed_total b (i + 1), passed-next b i)

-- ---- what a set may still spend

-- a copy that is to read its cell, or is at it; n is the number of cells
abbrev pub copy_left : ℕ → Reading → Hand → Block → ℕ
copy_left n Guess w b = 4 * (n - (w.cell + 1)) + 5 + (n - passed b w.cell)
copy_left n Version w b = 4 * (n - (w.cell + 1)) + 4 + (n - passed b w.cell)
copy_left n Length w b = 4 * (n - (w.cell + 1)) + 3 + (n - passed b w.cell)
copy_left n Probe w b = digits (w.hi - w.lo) + (4 * (n - (w.cell + 1)) + 2 + (n - passed b (w.cell + 1)))

abbrev pub rest : ℕ → Stage → Task → Block → ℕ
rest n Idle k b = 0
rest n (Getting r) k b = 0
rest n (Paging r) k b = 0
rest n Exchange k b = 0
rest n Read k b = 3
rest n Append k b = 2
rest n Write k b = 1
rest n TakeCopy k b = 5 * n + 2
rest n (Copying r) k b = copy_left n r k.hand b
rest n FillCopy k b = 4 * (n - (k.hand.cell + 1)) + 2 + (n - passed b (k.hand.cell + 1))
rest n Put k b = 1
rest n TakeNew k b = 0
rest n FillNew k b = 0

-- logs that grow leave less
pub rest-grows : (n : ℕ) (g : Stage) (k : Task) (b b' : Block) → (names g ≡ true → (i : ℕ) → length (log_at b i) ≤ length (log_at b' i)) → rest n g k b' ≤ rest n g k b
rest-grows n Idle k b b' h = zero-le
rest-grows n (Getting r) k b b' h = zero-le
rest-grows n (Paging r) k b b' h = zero-le
rest-grows n Exchange k b b' h = zero-le
rest-grows n Read k b b' h = omega arith
rest-grows n Append k b b' h = omega arith
rest-grows n Write k b b' h = omega arith
rest-grows n TakeCopy k b b' h = omega arith
rest-grows n (Copying r) k b b' h = copying r
  where
    more-passed : (i : ℕ) → passed b i ≤ passed b' i
    more-passed i = sum_mono i (λ (j : ℕ). length (log_at b j)) (λ (j : ℕ). length (log_at b' j)) (h refl)

    copying : (r : Reading) → copy_left n r k.hand b' ≤ copy_left n r k.hand b
    copying Guess = omega (arith, more-passed k.hand.cell)
    copying Version = omega (arith, more-passed k.hand.cell)
    copying Length = omega (arith, more-passed k.hand.cell)
    copying Probe = omega (arith, more-passed (k.hand.cell + 1))
rest-grows n FillCopy k b b' h =
    omega (arith, sum_mono (k.hand.cell + 1) (λ (j : ℕ). length (log_at b j)) (λ (j : ℕ). length (log_at b' j)) (h refl))
rest-grows n Put k b b' h = omega arith
rest-grows n TakeNew k b b' h = zero-le
rest-grows n FillNew k b b' h = zero-le

-- ---- a get of a copy

-- what is left when the cell's value is known
abbrev pub to_write : ℕ → Hand → Block → ℕ
to_write n w b = 4 * (n - (w.cell + 1)) + 2 + (n - passed b (w.cell + 1))

pub copy_some : (n : ℕ) (r : Reading) (w : Hand) (b : Block) → Unsettled r w → 0 < copy_left n r w b
copy_some n Guess w b o = omega arith
copy_some n Version w b o = omega arith
copy_some n Length w b o = omega arith
copy_some n Probe w b o = omega arith

abbrev pub CopyLess : ℕ → Block → ℕ → Progress → Type 0
CopyLess n b x (Going r w) = copy_left n r w b < x
CopyLess n b x (Settled w) = to_write n w b < x

pub copy-less : (r : Reading) (n : ℕ) (b : Block) (m : ℕ) (w : Hand) → passed b (w.cell + 1) ≤ n → Unsettled r w → CopyLess n b (copy_left n r w b) (get_step r b m w)
unfolding get_step
copy-less Guess n b m w few o = let z : 4 * (n - (w.cell + 1)) + 4 + (n - passed b w.cell) < 4 * (n - (w.cell + 1)) + 5 + (n - passed b w.cell) = omega arith in z
copy-less Version n b m w few o =
    if_case (CopyLess n b (copy_left n Version w b)) (eqb b.version m) (λ e. omega (arith, passed-next b w.cell)) (λ e. omega arith)
copy-less Length n b m w few o =
    if_case (CopyLess n b (copy_left n Length w b)) (eqb (length (log_at b w.cell)) 0) (λ e. omega (arith, passed-next b w.cell))
    (λ e. let z : digits (length (log_at b w.cell) - 0) + to_write n w b < copy_left n Length w b = omega (arith, passed-next b w.cell, digits_le (length (log_at b w.cell) - 0)) in z)
copy-less Probe n b m w few o =
    let q = probed (log_at b w.cell) m w in
    let less = probe_less (log_at b w.cell) m w o in
    let same : to_write n q b ≡ to_write n w b = ap (λ (i : ℕ). 4 * (n - (i + 1)) + 2 + (n - passed b (i + 1))) (probed-cell (log_at b w.cell) m w) in
    if_case (CopyLess n b (copy_left n Probe w b)) (eqb q.lo q.hi) (λ e. omega (arith, less, same)) (λ e. omega (arith, less, same))

-- ---- what each set and each new has spent so far

-- the steps of a get that are behind it
abbrev pub behind : Reading → ℕ
behind Guess = 0
behind Version = 1
behind Length = 2
behind Probe = 3

-- the steps of task k at stage g, on block b, with q probes among them; a copy will not spend more than 5N + 3
abbrev pub Within : ℕ → Stage → Task → Block → ℕ → Type 0
Within n Idle k b q = Unit
Within n TakeNew k b q = k.steps ≡ 0
Within n FillNew k b q = k.steps ≡ k.hand.cell + 1
Within n (Getting r) k b q = Unit
Within n Exchange k b q = (k.steps ≡ 0) × (q ≡ 0)
Within n Read k b q = k.steps ≡ 1
Within n Append k b q = k.steps ≡ 2
Within n Write k b q = k.steps ≡ 3
Within n TakeCopy k b q = (k.steps ≡ 1) × (q ≡ 0)
Within n (Copying r) k b q = (k.steps ≡ 2 + 4 * k.hand.cell + behind r + q) × (k.steps + copy_left n r k.hand b ≤ 5 * n + 3)
Within n FillCopy k b q = (k.steps ≡ 5 + 4 * k.hand.cell + q) × (k.steps + to_write n k.hand b ≤ 5 * n + 3)
Within n Put k b q = (k.steps ≡ 2 + 4 * n + q) × (k.steps + 1 ≤ 5 * n + 3)
Within n (Paging r) k b q = Unit

pub within-grows : (n : ℕ) (g : Stage) (k : Task) (b b' : Block) (x : ℕ) → (names g ≡ true → (i : ℕ) → length (log_at b i) ≤ length (log_at b' i)) → Within n g k b x → Within n g k b' x
within-grows n Idle k b b' x h q = tt
within-grows n TakeNew k b b' x h q = q
within-grows n FillNew k b b' x h q = q
within-grows n (Getting r) k b b' x h q = tt
within-grows n Exchange k b b' x h q = q
within-grows n Read k b b' x h q = q
within-grows n Append k b b' x h q = q
within-grows n Write k b b' x h q = q
within-grows n TakeCopy k b b' x h q = q
within-grows n (Copying r) k b b' x h q = (q.0, omega (arith, q.1, rest-grows n (Copying r) k b b' h))
within-grows n FillCopy k b b' x h q = (q.0, omega (arith, q.1, rest-grows n FillCopy k b b' h))
within-grows n Put k b b' x h q = q
within-grows n (Paging r) k b b' x h q = tt

-- a copy that has taken x steps, q of them probes, after a step of its get
abbrev pub CopyAt : ℕ → ℕ → Progress → Type 0
CopyAt x q (Going r w) = x ≡ 2 + 4 * w.cell + behind r + q
CopyAt x q (Settled w) = x ≡ 5 + 4 * w.cell + q

-- the get of a copy, on a block that is newer than its handle, takes three steps and its probes
pub copy_at : (r : Reading) (b : Block) (m : ℕ) (w : Hand) (x q : ℕ) → m < b.version → x ≡ 2 + 4 * w.cell + behind r + q → CopyAt (x + 1) (q + one (probing (Copying r))) (get_step r b m w)
unfolding get_step
copy_at Guess b m w x q newer e = let z : x + 1 ≡ 2 + 4 * w.cell + 1 + (q + 0) = omega arith in z
copy_at Version b m w x q newer e =
    if_case (CopyAt (x + 1) (q + 0)) (eqb b.version m)
    (λ f. absurd (omega (arith, eqb-true b.version m f)))
    (λ f. omega arith)
copy_at Length b m w x q newer e =
    if_case (CopyAt (x + 1) (q + 0)) (eqb (length (log_at b w.cell)) 0) (λ f. omega arith) (λ f. omega arith)
copy_at Probe b m w x q newer e =
    let h = probed (log_at b w.cell) m w in
    let same = probed-cell (log_at b w.cell) m w in
    if_case (CopyAt (x + 1) (q + 1)) (eqb h.lo h.hi) (λ f. omega (arith, same)) (λ f. omega (arith, same))

-- ---- what a block has saved for the copy that its last leaf will need

abbrev pub saved : ℕ → Block → ℕ
saved n b = if leb b.version n then 8 * b.version else 0

abbrev pub rest_at : State → ℕ → ℕ
rest_at s u = rest s.sizes.n (task_at s u).stage (task_at s u) (here_of s (task_at s u))

-- a block saves while a live handle stands on it
abbrev pub saved_at : State → ℕ → ℕ
saved_at s c = if stood s c then saved s.sizes.n (block_at s c) else 0

unfoldable pub rests : State → ℕ
rests s = sum_to s.sizes.t (rest_at s)

unfoldable pub savings : State → ℕ
savings s = sum_to s.sizes.b (saved_at s)

-- no handle comes to stand on a block, but on c
abbrev pub NoneBut : ℕ → State → State → Type 0
NoneBut c s x = (k : ℕ) → (k ≡ c → ⊥) → stood x k ≡ true → stood s k ≡ true

-- a block that is stood on only if it was, and has not changed, saves no more
saved-less : (s x : State) (c : ℕ) → x.sizes.n ≡ s.sizes.n → block_at x c ≡ block_at s c → (stood x c ≡ true → stood s c ≡ true) → saved_at x c ≤ saved_at s c
saved-less s x c en eb st =
    by_test (stood x c)
    (λ e. rw (e, st e) (omega (arith, ap₂ saved en eb)))
    (λ e. rw e zero-le)

-- the blocks are as they were
pub savings-same : (s x : State) → x.sizes.n ≡ s.sizes.n → x.sizes.b ≡ s.sizes.b → x.blocks ≡ s.blocks → ((k : ℕ) → stood x k ≡ true → stood s k ≡ true) → savings x ≤ savings s
unfolding savings
savings-same s x en eb e st =
    subst (λ (b : ℕ). sum_to b (saved_at x) ≤ sum_to s.sizes.b (saved_at s)) (sym eb)
    (sum_mono s.sizes.b (saved_at x) (saved_at s) (λ c. saved-less s x c en (ap (λ (l : List Block). get_or l c no_block) e) (st c)))

-- one block has become y
pub savings-change : (s x : State) → Shape s → (c : ℕ) (y : Block) → c < s.sizes.b → x.sizes.n ≡ s.sizes.n → x.sizes.b ≡ s.sizes.b → x.blocks ≡ set s.blocks c y → NoneBut c s x
    → savings x + saved_at s c ≤ savings s + saved s.sizes.n y
unfolding savings
savings-change s x sh c y h en eb e st =
    let q = sum-change s.sizes.b c (saved_at s) (saved_at x) h
    (λ u d. saved-less s x u en (ap (λ (l : List Block). get_or l u no_block) e ∙ get_or-set_other s.blocks c u y no_block d) (st u d)) in
    omega (arith, ap (λ (n : ℕ). sum_to n (saved_at x)) eb, mine)
  where
    mine : saved_at x c ≤ saved s.sizes.n y
    mine =
        if_case (λ (z : ℕ). z ≤ saved s.sizes.n y) (stood x c)
        (λ _. omega (arith, ap₂ saved en (ap (λ (l : List Block). get_or l c no_block) e ∙ get_or-set_same s.blocks c y no_block (omega (arith, h, sh.blocks_len)))))
        (λ _. zero-le)

-- task t has become k, and no log that another task reads has lost an entry
pub rests-change : (s x : State) → Shape s → InvS s → Goes s x → (t : ℕ) (k : Task) → t < s.sizes.t → x.sizes.n ≡ s.sizes.n → x.sizes.t ≡ s.sizes.t → x.tasks ≡ set s.tasks t k
    → rests x + rest_at s t ≤ rests s + rest s.sizes.n k.stage k (here_of x k)
unfolding rests
rests-change s x sh iv goes t k in_t en et e =
    let q = sum-change s.sizes.t t (rest_at s) (rest_at x) in_t others in
    omega (arith, ap (λ (n : ℕ). sum_to n (rest_at x)) et, mine)
  where
    mine : rest_at x t ≡ rest s.sizes.n k.stage k (here_of x k)
    mine = ap₂ (λ (n : ℕ) (z : Task). rest n z.stage z (here_of x z)) en (ap (λ (l : List Task). get_or l t idle) e ∙ get_or-set_same s.tasks t k idle (omega (arith, in_t, sh.tasks_len)))

    others : (u : ℕ) → (u ≡ t → ⊥) → rest_at x u ≤ rest_at s u
    others u d =
        let same : rest_at x u ≡ rest s.sizes.n (task_at s u).stage (task_at s u) (here_of x (task_at s u)) =
        ap₂ (λ (n : ℕ) (z : Task). rest n z.stage z (here_of x z)) en (ap (λ (l : List Task). get_or l u idle) e ∙ get_or-set_other s.tasks t u k idle d) in
        omega (
          arith,
          rest-grows s.sizes.n (task_at s u).stage (task_at s u) (here_of s (task_at s u)) (here_of x (task_at s u))
              (λ n i. let h = u_named s sh iv t in_t u n in subst (λ (c : ℕ). length (log_at (block_at s c) i) ≤ length (log_at (block_at x c) i)) h.on ((goes.1 (task_at s u).slot h.lives).2 i)),
        )
