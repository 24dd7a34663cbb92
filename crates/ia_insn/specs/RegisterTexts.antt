-- How registers print.
use Rattle.std.specs.Prelude.{ℕ, List, ◌∷◌, decimal}

-- `r`, `p` or `b` and the number in decimal
abbrev pub gr_text : ℕ → List ℕ
gr_text r = 114 ∷ decimal r

abbrev pub pr_text : ℕ → List ℕ
pr_text p = 112 ∷ decimal p

abbrev pub br_text : ℕ → List ℕ
br_text b = 98 ∷ decimal b
