-- Words and the instructions of a unit correspond one to one.
use Rattle.std.proofs.Common.{◌≡◌, ℕ, ◌^◌, ◌⊎◌, inl, inr, arith}
use Rattle.ia_insn.specs.declared.insn.Insn.{Insn}
use Rattle.ia_insn.specs.declared.choices.Unit.TheVariants.{M, I, F, B}
use Rattle.formats_a.specs.Listed.{CodeA}
use Rattle.formats_i.specs.Listed.{CodeI}
use Rattle.formats_m.specs.Listed.{CodeM}
use Rattle.formats_b.specs.ListedB.{CodeB}
use Rattle.formats_b.specs.ListedF.{CodeF}
use Rattle.insn_rows.specs.Laws.{OneInstruction, OneWord, IsFrom, IsBelow}
use Rattle.insn_codec.specs.Laws.{OneInstructionOfUnit, OneWordOfUnit}
use Rattle.insn_codec.proofs.Families.{not_a_and_m, not_a_and_i}

-- The word of an A instruction is that of no M and of no I instruction.
word_a_or_m : IsFrom CodeA (2 ^ 40) → IsBelow CodeM (2 ^ 40) → (w : ℕ) (x y : Insn) → CodeA x w → CodeM y w → ⊥
word_a_or_m high low w x y of_a of_m = omega (arith, high w x of_a, low w y of_m)

word_a_or_i : IsFrom CodeA (2 ^ 40) → IsBelow CodeI (2 ^ 40) → (w : ℕ) (x y : Insn) → CodeA x w → CodeI y w → ⊥
word_a_or_i high low w x y of_a of_i = omega (arith, high w x of_a, low w y of_i)

-- At most one is of two kinds together, where at most one is of each and no two are of one each.
one_of_two : {A : Type 0} (P Q : A → Type 0) → ((x y : A) → P x → P y → x ≡ y) → ((x y : A) → Q x → Q y → x ≡ y)
    → ((x y : A) → P x → Q y → ⊥) → (x y : A) → P x ⊎ Q x → P y ⊎ Q y → x ≡ y
one_of_two P Q one other apart x y (inl p) (inl r) = one x y p r
one_of_two P Q one other apart x y (inl p) (inr r) = absurd (apart x y p r)
one_of_two P Q one other apart x y (inr p) (inl r) = absurd (apart y x r p)
one_of_two P Q one other apart x y (inr p) (inr r) = other x y p r

-- A word is that of at most one instruction of a unit.
pub one_instruction : IsFrom CodeA (2 ^ 40) → IsBelow CodeM (2 ^ 40) → IsBelow CodeI (2 ^ 40) → OneInstruction CodeA → OneInstruction CodeM
    → OneInstruction CodeI → OneInstruction CodeF → OneInstruction CodeB → OneInstructionOfUnit
one_instruction high low_m low_i one_a one_m one_i one_f one_b M word =
    one_of_two (λ x. CodeA x word) (λ x. CodeM x word) (one_a word) (one_m word) (word_a_or_m high low_m word)
one_instruction high low_m low_i one_a one_m one_i one_f one_b I word =
    one_of_two (λ x. CodeA x word) (λ x. CodeI x word) (one_a word) (one_i word) (word_a_or_i high low_i word)
one_instruction high low_m low_i one_a one_m one_i one_f one_b F word = one_f word
one_instruction high low_m low_i one_a one_m one_i one_f one_b B word = one_b word
one_instruction high low_m low_i one_a one_m one_i one_f one_b unit word = λ x y p r. absurd p

-- An instruction has at most one word of a unit.
pub one_word : OneWord CodeA → OneWord CodeM → OneWord CodeI → OneWord CodeF → OneWord CodeB → OneWordOfUnit
one_word one_a one_m one_i one_f one_b M x = one_of_two (CodeA x) (CodeM x) (one_a x) (one_m x) (λ v w p r. not_a_and_m x (v, p) (w, r))
one_word one_a one_m one_i one_f one_b I x = one_of_two (CodeA x) (CodeI x) (one_a x) (one_i x) (λ v w p r. not_a_and_i x (v, p) (w, r))
one_word one_a one_m one_i one_f one_b F x = one_f x
one_word one_a one_m one_i one_f one_b B x = one_b x
one_word one_a one_m one_i one_f one_b unit x = λ v w p r. absurd p
