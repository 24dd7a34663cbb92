-- What a listed instruction says of its action.
use Rattle.std.proofs.Common.{◌≢◌, ℕ, ◌*◌, ◌≤◌, inr, arith}
use Rattle.ia_insn.specs.declared.choices.AluFn.TheVariants.{Add}
use Rattle.ia_insn.specs.declared.choices.LoadKind.{LoadKind}
use Rattle.ia_insn.specs.declared.choices.LoadKind.TheVariants as load
use Rattle.ia_insn.specs.declared.choices.BranchKind.TheVariants.{Cond}
use Rattle.ia_insn.specs.declared.insn.Op.{Op}
use Rattle.ia_insn.specs.declared.insn.Op.TheVariants as op
use Rattle.ia_insn.specs.Ranges.{IsPartSize, IsAccessSize, IsLoadSize, HasRanges}
use Rattle.ia_meaning.specs.State.{IsWord}
use Rattle.ia_meaning.specs.Arithmetic.{immediate}
use Rattle.ia_meaning.specs.declared.action.Action.{Action}
use Rattle.ia_meaning.specs.declared.action.Action.TheVariants.{Compute, ToApplication, FromMemory, Exchange, Allocate}
use Rattle.ia_meaning.specs.Actions.{addition, action_of, value_of, moved}
use Rattle.state_laws.proofs.Words.{immediate_word, alu_word, shift_add_word, lanes_word, shift_word, shift_pair_word, extract_word, deposit_word, extend_word, ones_word}

-- What it computes and moves of words are words, and its numbers are in range.
abbrev pub HasActionWords : Action → Type 0
HasActionWords (Compute r1 r2 r3 f) = (a b : ℕ) → IsWord a → IsWord b → IsWord (value_of f a b)
HasActionWords (ToApplication ar r2 w) = (a : ℕ) → IsWord a → IsWord (moved w a)
HasActionWords (FromMemory size kind r1 r3 u) = (r1 ≢ 0) × IsAccessSize size
HasActionWords (Exchange size r1 r3 r2 inc) = IsAccessSize size
HasActionWords (Allocate r1 sof sol sor) = (sof ≤ 96) × (sol ≤ sof) × (8 * sor ≤ sof)
HasActionWords action = Unit {0}

load_size : (kind : LoadKind) (size : ℕ) → IsLoadSize kind size → IsAccessSize size
load_size load.Fill size h = inr (inr (inr h))
load_size kind size h = h

ext_size : (size : ℕ) → IsPartSize size → size ≤ 8
ext_size size h = omega arith

pub action_words : (o : Op) → HasRanges o → HasActionWords (action_of o)
action_words (op.Alu f r1 r2 r3) h = alu_word f
action_words (op.ShlAdd p4 r1 r2 count r3) h = λ a b i j. shift_add_word p4 count a b
action_words (op.AluImm8 f r1 imm r3) h = λ a b i j. alu_word f (immediate imm) b (immediate_word 8 imm (omega arith) h.1) j
action_words (op.AddImm14 p4 r1 imm r3) h = λ a b i j. alu_word (addition p4) (immediate imm) b (immediate_word 14 imm (omega arith) h.1) j
action_words (op.AddImm22 r1 imm r3) h = λ a b i j. alu_word Add (immediate imm) b (immediate_word 22 imm (omega arith) h.1) j
action_words (op.Lane f size r1 r2 r3) h = λ a b i j. lanes_word f size a b h.1
action_words (op.ShiftVar f r1 value count) h = λ a b i j. shift_word f a b i
action_words (op.Popcnt r1 r3) h = λ a b i j. ones_word b j
action_words (op.Shrp r1 r2 r3 count) h = λ a b i j. shift_pair_word count a b
action_words (op.Extr signed r1 r3 pos len) h = λ a b i j. extract_word signed pos len b
action_words (op.DepZ r1 r2 pos len) h = λ a b i j. deposit_word pos len a b h.1.position j
action_words (op.DepZImm r1 imm pos len) h = λ a b i j. deposit_word pos len (immediate imm) b h.1.position j
action_words (op.DepImm r1 ones r3 pos len) h = λ a b i j. deposit_word pos len _ b h.1.position j
action_words (op.Dep r1 r2 r3 pos len) h = λ a b i j. deposit_word pos len a b h.1.position j
action_words (op.MovToAr ar r2) h = λ a i. i
action_words (op.MovToArImm ar imm) h = λ a i. immediate_word 8 imm (omega arith) h
action_words (op.Ext signed size r1 r3) h = λ a b i j. extend_word signed size b (ext_size size h.1)
action_words (op.Load size kind hint r1 r3 update) h = (h.0, load_size kind size h.1)
action_words (op.Xchg size hint r1 r3 r2) h = h.1
action_words (op.FetchAdd size release hint r1 r3 inc) h = inr (inr h.1)
action_words (op.Alloc r1 sof sol sor) h = (h.1, h.2, h.3)
action_words (op.Movl r1 imm) h = λ a b i j. h.1
action_words (op.Br Cond wh many clr disp) h = tt
action_words (op.Br kind wh many clr disp) h = tt
action_words o h = tt
