-- What a C function leaves: the pool, the answer slice and the number that it returns, each a total function of what it was given.
-- Rests on the rule book's answers.
use Prim.Native.Nat.{ℕ}
use Rattle.std.specs.Prelude.{ltb, drop, length, replicate, if◌then◌else◌}
use mathlib.Core.List.{List, ◌++◌}
use Rattle.rulebook.specs.declared.Reply.{Reply}
use Rattle.rulebook.specs.Answers.{refusal, word}
use Rattle.rulebook.specs.State.{list_to}

-- the first 16 words hold the numbers of the answer and then zeros, later words are left; the refusal number is returned
unfoldable pub said_in : List ℕ → Reply → List ℕ × ℕ
said_in a r = (list_to 16 (λ (j : ℕ). word j r) ++ drop 16 a, refusal r)

-- a call that may change the pool: 15 before all else
unfoldable pub answered_in : (List ℕ → List ℕ × Reply) → List ℕ → List ℕ → (List ℕ × List ℕ) × ℕ
answered_in f p a = if ltb (length a) 16 then ((p, a), 15) else (((f p).0, (said_in a (f p).1).0), (said_in a (f p).1).1)

-- a call that only looks
unfoldable pub shown_in : (List ℕ → Reply) → List ℕ → List ℕ → List ℕ × ℕ
shown_in f p a = if ltb (length a) 16 then (a, 15) else said_in a (f p)

-- ---- an answer's words, as the code writes them

-- the words that an answer leaves
unfoldable pub words_in : List ℕ → Reply → List ℕ
words_in a r = list_to 16 (λ (j : ℕ). word j r) ++ drop 16 a

-- eight numbers, and zeros
abbrev pub listed : List ℕ → List ℕ
listed l = l ++ replicate 8 0
