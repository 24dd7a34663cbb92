-- What a slot gives a general register is there after the group, in every order of the writes.
use Rattle.std.proofs.Common.{◌≡◌, ℕ, ◌<◌, inl, inr, true, List, [], ◌∷◌, ◌-◌, Some, length, refl, sym, ◌∙◌, ap, subst, arith}
use Rattle.std.specs.List.{AllByRecursion as Each}
use Rattle.ia_program.specs.declared.limits.TheConstants.{RUN_LIMIT}
use Rattle.ia_meaning.specs.declared.state.FrameShape.{FrameShape}
use Rattle.ia_meaning.specs.State.{Registers}
use Rattle.ia_meaning.specs.declared.write.Write.{Write}
use Rattle.ia_meaning.specs.declared.write.Write.TheVariants.{SetStatic}
use Rattle.ia_meaning.specs.Names.{spot}
use Rattle.ia_meaning.specs.Steps.{seq_run}
use Rattle.ia_meaning.specs.ParallelGroups.{Gathered, gathered_from, gathered, par_group}
use Rattle.resource_sets.specs.declared.access.Resource.{Resource}
use Rattle.resource_sets.specs.declared.access.Resource.TheVariants.{Gr, Pr, Br, Unat, Pfs, Lc, Ec, Cfm}
use Rattle.resource_sets.specs.AccessLaws.{StaticAt, spot_location, location_of}
use Rattle.order_laws.specs.GroupSlots.{done_by}
use Rattle.order_laws.specs.Targets.{Stands, TargetsStand, NextTargetsStand}
use Rattle.order_laws.proofs.Orders.{orders}
use Rattle.order_laws.proofs.Walked.{runs_are_known}
use Rattle.order_laws.proofs.Untouched.{Mem, each_mem}
use Rattle.order_laws.proofs.Gathering.{joined, EarlierWrite, IsGathering}
use Rattle.order_laws.proofs.WholeGroups.{IsGathered, group_gathered, is_written, base_statics}
use Rattle.order_laws.proofs.WritesStand.{IsStaticOf, writes_stand}

each_all : {X : Type 0} (P : X → Type 0) (xs : List X) → ((x : X) → Mem x xs → P x) → Each P xs
each_all P [] h = tt
each_all P (x ∷ xs) h = (h x (inl refl), each_all P xs (λ y m. h y (inr m)))

-- A static register is one of 32.
static_general : (f : FrameShape) (r n : ℕ) → spot_location (spot f r) ≡ Some (StaticAt n) → n < 32
unfolding spot
static_general f r n e = grind arith

static_place : (f : FrameShape) (q : Resource) (n : ℕ) → location_of f q ≡ Some (StaticAt n) → n < 32
static_place f (Gr r) n e = static_general f r n e
static_place f (Pr r) n e = absurd (cc)
static_place f (Br r) n e = absurd (cc)
static_place f Unat n e = absurd (cc)
static_place f Pfs n e = absurd (cc)
static_place f Lc n e = absurd (cc)
static_place f Ec n e = absurd (cc)
static_place f Cfm n e = absurd (cc)

pub targets_stand : TargetsStand
targets_stand p code s w xs ys x program free known e plain =
    each_all (Stands left) (done_by p x).writes stands
  where
    all : Gathered
    all = (gathered p s).all

    start : Registers
    start = record all.base { unat = all.unat }

    left : Registers
    left = (par_group p code s).state.registers

    is : IsGathered p all
    is = group_gathered p program free (RUN_LIMIT - 1) s w known

    way : IsGathering p is.past all.base all.writes all.unat
    way = is.way

    statics : length start.statics ≡ 32
    statics = ap length (base_statics RUN_LIMIT p true (gathered_from s)) ∙ (let r = known.state.registers in r.static_count)

    one : (v : Write) → Mem v all.writes → IsStaticOf (length start.statics) v
    one (SetStatic n c) m =
        let from =
        each_mem (EarlierWrite p is.past all.base (joined all.base all.writes all.unat)) (SetStatic n c) all.writes way.origins m in
        subst (λ k. n < k) (sym statics) (static_place all.base.frame from.access.resource n from.names)
    one v m = tt

    stands : (v : Write) → Mem v (done_by p x).writes → Stands left v
    stands v m =
        let written = is_written p ys x plain v m RUN_LIMIT true (gathered_from s) xs e in
        subst (λ r. Stands r v) (sym (orders code all.writes start way.fits (inl way.inside)))
        (writes_stand v all.writes start way.fits (inl way.inside) (one v written) way.cells written)

-- The targets stand in the next group of a run.
pub next_targets_stand : NextTargetsStand
next_targets_stand n p code s xs ys x program free start e plain =
    let k = runs_are_known n p s program start in targets_stand p code (seq_run p n s).state k.0 xs ys x program free k.1 e plain
