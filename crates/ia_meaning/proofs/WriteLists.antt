-- Lists of writes, one after another, and what holds of each write of a list with writes that may be there.
use Rattle.std.proofs.Common.{◌≡◌, Bool, true, false, if◌then◌else◌, List, [], ◌∷◌, ◌++◌, Option, Some, None, refl}
use Rattle.std.specs.List.{AllByRecursion as Each}
use Rattle.ia_meaning.specs.declared.write.Write.{Write}
use Rattle.ia_meaning.specs.State.{Registers}
use Rattle.ia_meaning.specs.Writes.{put, apply}
use Rattle.ia_meaning.specs.Loops.{written}

-- Some writes, and then others.
pub apply_append : (ws vs : List Write) (r : Registers) → apply (ws ++ vs) r ≡ apply vs (apply ws r)
apply_append [] vs r = refl
apply_append (w ∷ ws) vs r = apply_append ws vs (put w r)

-- A write that is there by a test.
pub may_write : (P : Write → Type 0) (t : Bool) (w : Write) (ws : List Write) → (t ≡ true → P w) → Each P ws
    → Each P (if t then w ∷ ws else ws)
may_write P true w ws h rest = (h refl, rest)
may_write P false w ws h rest = rest

-- One that is there with its value.
pub each_written : (P : Write → Type 0) {X : Type 0} (g : X → Write) (o : Option X) (ws : List Write) → ((x : X) → o ≡ Some x → P (g x))
    → Each P ws → Each P (written g o ws)
each_written P g None ws h rest = rest
each_written P g (Some x) ws h rest = (h x refl, rest)
