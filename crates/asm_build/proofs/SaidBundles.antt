-- The bundles of a text are those on its lines.
use Rattle.std.proofs.Common.{◌≡◌, ◌∙◌, refl, sym, ap, subst, ℕ, ◌+◌, Bool, true, false, ◌||◌, List, [], ◌∷◌, ◌++◌, Option, Some, None, append_assoc, append-nil}
use Rattle.std.specs.Prelude.{IsSome, IfSome, IsSomeAnd, ⊤}
use Rattle.std.specs.Option.{option_map}
use Rattle.first_fault.specs.Stages.{ArePassed}
use Rattle.ia_program.specs.declared.bundle.Slots.TheVariants.{Three, Long}
use Rattle.ia_program.specs.Bundles.{IsBundle}
use Rattle.asm_reading.specs.declared.line.Draft.{Draft}
use Rattle.asm_reading.specs.declared.line.Line.{Line}
use Rattle.asm_reading.specs.declared.line.Line.TheVariants as line
use Rattle.asm_reading.specs.declared.line.TemplateName.{TemplateName}
use Rattle.asm_reading.specs.declared.line.TemplateName.TheVariants as template_name
use Rattle.asm_build.specs.declared.draft.BundleLines.{BundleLines}
use Rattle.asm_build.specs.declared.draft.SlotLine.{SlotLine}
use Rattle.asm_build.specs.OpenSlots.{SlotLines}
use Rattle.asm_build.specs.OpenSlots as slots
use Rattle.asm_build.specs.Drafts.{OpenBundle, HasSlot, HasSome, HasSlotRoom, HasRoomIn, IsWhole, added, stopped, closed, closed_as, three, long}
use Rattle.asm_build.specs.TemplateNames.{template_of}
use Rattle.asm_build.specs.TextParts.{TextParts, after, value_stages, closed_of, with_bundle}
use Rattle.asm_build.specs.WholeTexts.{SlotSaid, is_stopped, slots_in, bundles_in}
use Rattle.asm_build.proofs.SaidLines.{Follow}

-- A slot line as it is said.
abbrev said : SlotLine → SlotSaid
said l = record { insn = l.insn; target = l.target; stop = l.stop }

-- A slot line as it is said where a stop may follow it on the next lines.
abbrev said_before : SlotLine → List Line → SlotSaid
said_before l rest = record { insn = l.insn; target = l.target; stop = is_stopped rest || l.stop }

-- The slots of an open bundle, and those on the lines that follow.
abbrev all_slots : TemplateName → SlotLines → List Line → List SlotSaid
all_slots name slots.Zero rest = slots_in name 0 rest
all_slots name (slots.One a) rest = said_before a rest ∷ slots_in name 1 rest
all_slots name (slots.Two a b) rest = said a ∷ said_before b rest ∷ slots_in name 2 rest
all_slots name (slots.Three a b c) rest = said a ∷ said b ∷ said_before c rest ∷ slots_in name 3 rest

-- The bundle that is open, where there is one, and those that begin on the lines that follow.
abbrev pending : Option OpenBundle → List Line → List (List SlotSaid × TemplateName)
pending None rest = bundles_in rest
pending (Some o) rest = (all_slots o.name o.slots rest, o.name) ∷ bundles_in rest

-- A bundle whose names are still to be put in is what its slots and its template's name say.
abbrev pub IsDrafted : List SlotSaid → TemplateName → BundleLines → Type 0
IsDrafted (x ∷ y ∷ []) template_name.Mlx l =
    (template_of template_name.Mlx x.stop false y.stop ≡ Some l.bundle.template)
    × (l.bundle.slots ≡ Long x.insn y.insn) × (l.first.target ≡ x.target) × (l.second.target ≡ y.target)
IsDrafted (x ∷ y ∷ z ∷ []) name l =
    (template_of name x.stop y.stop z.stop ≡ Some l.bundle.template)
    × (l.bundle.slots ≡ Three x.insn y.insn z.insn) × (l.first.target ≡ x.target) × (l.second.target ≡ y.target)
    × (l.third.target ≡ z.target)
IsDrafted slots name l = ⊥

abbrev pub AreDrafted : List (List SlotSaid × TemplateName) → List BundleLines → Type 0
AreDrafted [] [] = ⊤
AreDrafted (x ∷ xs) (l ∷ ls) = IsDrafted x.0 x.1 l × AreDrafted xs ls
AreDrafted xs ls = ⊥

-- Bundles are there beside those from before, and are these.
abbrev pub Grown : List BundleLines → List BundleLines → List (List SlotSaid × TemplateName) → Type 0
Grown old new saids = (more : List BundleLines) × (new ≡ old ++ more) × AreDrafted saids more

-- Outside a bundle.
outside : (o : Option OpenBundle) (v : Line) (vs : List Line) → o ≡ None → bundles_in (v ∷ vs) ≡ bundles_in vs
    → pending o (v ∷ vs) ≡ pending o vs
outside None v vs none same = same
outside (Some o) v vs none same = absurd cc

-- A blank line.
blank_slots : (name : TemplateName) (lines : SlotLines) (vs : List Line) → all_slots name lines (line.Empty ∷ vs) ≡ all_slots name lines vs
blank_slots name slots.Zero vs = refl
blank_slots name (slots.One a) vs = refl
blank_slots name (slots.Two a b) vs = refl
blank_slots name (slots.Three a b c) vs = refl

blank : (o : Option OpenBundle) (vs : List Line) → pending o (line.Empty ∷ vs) ≡ pending o vs
blank None vs = refl
blank (Some o) vs = ap (λ contents. (contents, o.name) ∷ bundles_in vs) (blank_slots o.name o.slots vs)

-- The beginning of a bundle.
opened : (o : Option OpenBundle) (name : TemplateName) (vs : List Line) → o ≡ None
    → pending o (line.Open name ∷ vs) ≡ pending (Some (record { name = name; slots = slots.Zero })) vs
opened None name vs none = refl
opened (Some o) name vs none = absurd cc

-- One more slot.
slot_added : (name : TemplateName) (lines : SlotLines) (n : ℕ) (d : Draft) (stop : Bool) (vs : List Line) → HasRoomIn name lines
    → pending (Some (record { name = name; slots = lines })) (line.Slot d stop ∷ vs)
    ≡ pending (Some (added (record { name = name; slots = lines }) n d stop)) vs
slot_added name slots.Zero n d stop vs room = refl
slot_added name (slots.One a) n d stop vs room = refl
slot_added name (slots.Two a b) n d stop vs room = refl
slot_added name (slots.Three a b c) n d stop vs room = absurd room

slot_more : (o : Option OpenBundle) (n : ℕ) (d : Draft) (stop : Bool) (vs : List Line) → IsSome o → IfSome o HasSlotRoom
    → pending o (line.Slot d stop ∷ vs) ≡ pending (option_map (λ o. added o n d stop) o) vs
slot_more None n d stop vs some room = absurd cc
slot_more (Some o) n d stop vs some room = slot_added o.name o.slots n d stop vs room

-- A stop after the last.
or_true : (b : Bool) → true ≡ (b || true)
or_true true = refl
or_true false = refl

last_stopped : (name : TemplateName) (lines : SlotLines) (vs : List Line) → HasSome lines
    → pending (Some (record { name = name; slots = lines })) (line.Stop ∷ vs)
    ≡ pending (Some (stopped (record { name = name; slots = lines }))) vs
last_stopped name slots.Zero vs some = absurd some
last_stopped name (slots.One a) vs some =
    ap (λ b. (record { insn = a.insn; target = a.target; stop = b } ∷ slots_in name 1 vs, name) ∷ bundles_in vs) (or_true (is_stopped vs))
last_stopped name (slots.Two a b) vs some =
    ap (λ s. (said a ∷ record { insn = b.insn; target = b.target; stop = s } ∷ slots_in name 2 vs, name) ∷ bundles_in vs)
    (or_true (is_stopped vs))
last_stopped name (slots.Three a b c) vs some =
    ap (λ s. (said a ∷ said b ∷ record { insn = c.insn; target = c.target; stop = s } ∷ slots_in name 3 vs, name) ∷ bundles_in vs)
    (or_true (is_stopped vs))

stop_more : (o : Option OpenBundle) (vs : List Line) → IsSomeAnd o HasSlot → pending o (line.Stop ∷ vs) ≡ pending (option_map stopped o) vs
stop_more None vs some = absurd some
stop_more (Some o) vs some = last_stopped o.name o.slots vs some

-- The end of a bundle.
long_drafted : (a b : SlotLine) (t : Option ℕ) → template_of template_name.Mlx a.stop false b.stop ≡ t
    → IfSome (option_map (long a b) t) (IsDrafted (said a ∷ said b ∷ []) template_name.Mlx)
long_drafted a b None is = tt
long_drafted a b (Some t) is = (is, refl, refl, refl)

three_drafted : (name : TemplateName) (a b c : SlotLine) (t : Option ℕ) → template_of name a.stop b.stop c.stop ≡ t
    → IfSome (option_map (three a b c) t) (IsDrafted (said a ∷ said b ∷ said c ∷ []) name)
three_drafted name a b c None is = tt
three_drafted name a b c (Some t) is = (is, refl, refl, refl, refl)

closed_drafted : (name : TemplateName) (lines : SlotLines) (vs : List Line)
    → IfSome (closed_as lines name) (IsDrafted (all_slots name lines (line.Close ∷ vs)) name)
closed_drafted template_name.Mlx (slots.Two a b) vs = long_drafted a b (template_of template_name.Mlx a.stop false b.stop) refl
closed_drafted name (slots.Two a b) vs = tt
closed_drafted name (slots.Three a b c) vs = three_drafted name a b c (template_of name a.stop b.stop c.stop) refl
closed_drafted name slots.Zero vs = tt
closed_drafted name (slots.One a) vs = tt

some_drafted : (s : TextParts) (o : Option BundleLines) (x : List SlotSaid × TemplateName) (vs : List Line) (end : List BundleLines)
    → IsSomeAnd o (λ b. IsBundle b.bundle) → IfSome o (IsDrafted x.0 x.1)
    → Grown (with_bundle s o).bundles end (pending (with_bundle s o).current vs) → Grown s.bundles end (x ∷ bundles_in vs)
some_drafted s None x vs end some drafted h = absurd some
some_drafted s (Some l) x vs end some drafted (more, grown, are) = (l ∷ more, grown ∙ append_assoc s.bundles (l ∷ []) more, (drafted, are))

close_more : (s : TextParts) (o : Option OpenBundle) (vs : List Line) (end : List BundleLines) → IsSome o → IfSome o IsWhole
    → Grown (with_bundle s (closed_of o)).bundles end (pending (with_bundle s (closed_of o)).current vs)
    → Grown s.bundles end (pending o (line.Close ∷ vs))
close_more s None vs end some whole h = absurd cc
close_more s (Some o) vs end some whole h =
    some_drafted s (closed o) (all_slots o.name o.slots (line.Close ∷ vs), o.name) vs end whole (closed_drafted o.name o.slots vs) h

-- Where the bundles stay and the ones that are pending are the same.
stays : (old new : List BundleLines) (xs ys : List (List SlotSaid × TemplateName)) → xs ≡ ys → Grown old new ys → Grown old new xs
stays old new xs ys same h = subst (Grown old new) (sym same) h

one_grown : (s : TextParts) (n : ℕ) (v : Line) (vs : List Line) (end : List BundleLines) → ArePassed (value_stages s v)
    → Grown (after s n v).bundles end (pending (after s n v).current vs) → Grown s.bundles end (pending s.current (v ∷ vs))
one_grown s n line.Empty vs end passed h = stays s.bundles end _ _ (blank s.current vs) h
one_grown s n (line.Label name) vs end passed h = stays s.bundles end _ _ (outside s.current (line.Label name) vs passed.0 refl) h
one_grown s n line.Text vs end passed h = stays s.bundles end _ _ (outside s.current line.Text vs passed.0 refl) h
one_grown s n line.Data vs end passed h = stays s.bundles end _ _ (outside s.current line.Data vs passed.0 refl) h
one_grown s n (line.Entry name) vs end passed h = stays s.bundles end _ _ (outside s.current (line.Entry name) vs passed.0 refl) h
one_grown s n (line.Relation predicates) vs end passed h =
    stays s.bundles end _ _ (outside s.current (line.Relation predicates) vs passed.0.closed refl) h
one_grown s n line.Ignored vs end passed h = stays s.bundles end _ _ (outside s.current line.Ignored vs passed.0 refl) h
one_grown s n (line.Numbers size values) vs end passed h =
    stays s.bundles end _ _ (outside s.current (line.Numbers size values) vs passed.0.closed refl) h
one_grown s n (line.Skip count) vs end passed h = stays s.bundles end _ _ (outside s.current (line.Skip count) vs passed.0.closed refl) h
one_grown s n (line.Open name) vs end passed h = stays s.bundles end _ _ (opened s.current name vs passed.0.closed) h
one_grown s n (line.Slot d stop) vs end passed h = stays s.bundles end _ _ (slot_more s.current n d stop vs passed.0 passed.1.1.0) h
one_grown s n line.Stop vs end passed h = stays s.bundles end _ _ (stop_more s.current vs passed.0) h
one_grown s n line.Close vs end passed h = close_more s s.current vs end passed.0 passed.1.1.0 h

none_pending : (o : Option OpenBundle) → o ≡ None → AreDrafted (pending o []) []
none_pending None none = tt
none_pending (Some o) none = absurd cc

-- The bundles are those of the lines.
all_grown : (s : TextParts) (n : ℕ) (values : List Line) (t : TextParts) → Follow s n values t → t.current ≡ None
    → Grown s.bundles t.bundles (pending s.current values)
all_grown s n [] t h closed = (
  [],
  ap (λ (u : TextParts). u.bundles) h ∙ sym (append-nil s.bundles),
  none_pending s.current (sym (ap (λ (u : TextParts). u.current) h) ∙ closed),
)
all_grown s n (v ∷ vs) t h closed = one_grown s n v vs t.bundles h.0 (all_grown (after s n v) (n + 1) vs t h.1 closed)

drafted_at : (o : Option OpenBundle) (old new : List BundleLines) (values : List Line) → old ≡ [] → o ≡ None
    → Grown old new (pending o values) → AreDrafted (bundles_in values) new
drafted_at o [] new values none closed (more, grown, are) =
    subst (λ ls. AreDrafted (bundles_in values) ls) (sym grown) (subst (λ o. AreDrafted (pending o values) more) closed are)
drafted_at o (l ∷ ls) new values none closed h = absurd cc

pub all_drafted : (s : TextParts) (n : ℕ) (values : List Line) (t : TextParts) → Follow s n values t → t.current ≡ None → s.bundles ≡ []
    → s.current ≡ None → AreDrafted (bundles_in values) t.bundles
all_drafted s n values t h closed none before =
    drafted_at s.current s.bundles t.bundles values none before (all_grown s n values t h closed)
