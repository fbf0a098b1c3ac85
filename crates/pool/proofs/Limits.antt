-- A header whose N, H or T is beyond its limits says no sizes.
-- Rests on the laws of the header's tests.
use Rattle.std.specs.Prelude.{ℕ, Bool, true, not, List, length, get_or, None, ◌≡◌, ◌≤◌}
use Rattle.layout.specs.Header.{form, header_of, limited, mark}
use Rattle.layout.specs.Ways.{header_says, sizes_unlimited}

pub header_unlimited : (p : List ℕ) (x : ℕ) (r : Bool)
    → 16 ≤ length p → get_or p 0 0 ≡ mark → get_or p 5 0 ≡ form → x ≡ get_or p 4 0 → x ≡ length p
    → r ≡ limited (get_or p 1 0) (get_or p 2 0) (get_or p 3 0) → not r ≡ true → None ≡ header_of p
header_unlimited p x r l a b e c f q =
    header_says p l a b x e None c (sizes_unlimited (get_or p 1 0) (get_or p 2 0) (get_or p 3 0) (length p) r f q)
