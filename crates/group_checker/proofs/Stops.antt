-- Groups, violations and windows look only at the stops of places that come before.
use Rattle.std.proofs.Common.{◌≡◌, ℕ, Bool, cond, List, ◌∷◌, [], refl, sym, ap, ◌∙◌, subst}
use Rattle.std.specs.Prelude.{Contains}
use Rattle.ia_program.specs.declared.place.Place.{Place}
use Rattle.ia_program.specs.Places.{IsBefore}
use Rattle.resource_sets.specs.declared.access.Resource.{Resource}
use Rattle.resource_sets.specs.declared.clashes.Rule.{Rule}
use Rattle.resource_sets.specs.declared.clashes.Rule.TheVariants.{Raw, Waw, War63, AllocFirst, ClearLast}
use Rattle.predicate_rel.specs.declared.edge.Edge.TheVariants.{Falls, Taken}
use Rattle.flow_facts.specs.Graphs.{Graph}
use Rattle.flow_facts.specs.Walks.{Walk, begins, goes_on, EndsIn, end_of, group_since}
use Rattle.group_checker.specs.declared.window.EarlierSlot.{EarlierSlot}
use Rattle.order_laws.specs.Excuses.{IsExcused, IsLatest}
use Rattle.order_laws.specs.Violations.{ClashesUnexcused, Breaks}
use Rattle.group_checker.specs.Windows.{IsThrough, IsCarried}
use Rattle.group_checker.specs.WindowLaws.{AgreeBefore, GroupsAgree, ViolationsAgree, WindowsAgree}
use Rattle.order_laws.proofs.Falling.{before_trans, falls_up}

-- A group looks only at the stops before the walk's end.
pub groups_agree : GroupsAgree
groups_agree g has_stop other (begins bundle) is agree = refl
groups_agree g has_stop other (goes_on w Taken place) is agree = refl
groups_agree g has_stop other (goes_on w Falls place) is agree =
    ap (λ (s : Bool). cond s [] (end_of w ∷ group_since has_stop w)) (agree (end_of w) up)
    ∙ ap (λ (l : List Place). cond (other (end_of w)) [] (end_of w ∷ l))
    (groups_agree g has_stop other w is.0 (λ k before. agree k (before_trans k (end_of w) place before up)))
  where
    up : IsBefore (end_of w) place
    up = falls_up g (end_of w) place is.1

module _ (g : Graph) (has_stop other : Place → Bool) (w : Walk) (same : group_since has_stop w ≡ group_since other w) where
  -- Two accesses are excused with the other stops where they were with these.
  excused_back : (i : Place) (first second : ℕ) → IsExcused g other w i first second → IsExcused g has_stop w i first second
  excused_back i first second x = record {
    known = x.known;
    unwritten = λ k c late. x.unwritten k (subst (λ (l : List Place). Contains l k) same c) late;
  }

  unexcused_on : (i : Place) (rule : Rule) (q : Resource) → ClashesUnexcused g has_stop w i rule q → ClashesUnexcused g other w i rule q
  unexcused_on i rule q c = record {
    clashes = c.clashes;
    stays = λ x. c.stays (excused_back i c.clashes.first.guard c.clashes.second.guard x);
  }

  breaks_on : (i : Place) (rule : Rule) (q : Resource) → Breaks g has_stop w i rule q → Breaks g other w i rule q
  breaks_on i Raw q b = unexcused_on i Raw q b
  breaks_on i Waw q b = unexcused_on i Waw q b
  breaks_on i War63 q b = b
  breaks_on i AllocFirst q b = (b.0, subst (λ (l : List Place). IsLatest l i) same b.1, b.2)
  breaks_on i ClearLast q b = (b.0, subst (λ (l : List Place). IsLatest l i) same b.1, b.2)

-- The groups of walks to a place, where the two agree before it.
agree_there : (g : Graph) (has_stop other : Place → Bool) (j : Place) (w : Walk) → AgreeBefore j has_stop other → EndsIn g j w
    → group_since has_stop w ≡ group_since other w
agree_there g has_stop other j w agree there =
    groups_agree g has_stop other w there.walks (subst (λ (k : Place). AgreeBefore k has_stop other) (sym there.ends) agree)

-- A violation looks only at the stops before the second slot.
pub violations_agree : ViolationsAgree
violations_agree g has_stop other v agree x =
    let same = agree_there g has_stop other v.second x.walk agree x.there in
    record {
      walk = x.walk;
      there = x.there;
      inside = subst (λ (l : List Place). Contains l v.first) same x.inside;
      breaks = breaks_on g has_stop other x.walk same v.first v.rule v.resource x.breaks;
    }

-- A walk through a slot is one with the other stops too.
through_on : (g : Graph) (has_stop other : Place → Bool) (i j : Place) (w : Walk) → AgreeBefore j has_stop other
    → IsThrough g has_stop i j w → IsThrough g other i j w
through_on g has_stop other i j w agree t = record {
  there = t.there;
  inside = subst (λ (l : List Place). Contains l i) (agree_there g has_stop other j w agree t.there) t.inside;
}

carried_on : (g : Graph) (has_stop other : Place → Bool) (j : Place) (e : EarlierSlot) → AgreeBefore j has_stop other
    → IsCarried g has_stop j e → IsCarried g other j e
carried_on g has_stop other j e agree is = record {
  clears = is.clears;
  accesses = is.accesses;
  known = record {
    reached = (let (w, t) = is.known.reached in (w, through_on g has_stop other e.place j w agree t));
    sound = λ w t. is.known.sound w (through_on g other has_stop e.place j w (λ k before. sym (agree k before)) t);
    exact = λ x y n. (let (w, t, m) = is.known.exact x y n in (w, through_on g has_stop other e.place j w agree t, m));
  };
  below = is.below;
}

-- A window looks only at the stops before its place.
pub windows_agree : WindowsAgree
windows_agree g has_stop other es j agree win = record {
  size = win.size;
  carried = λ m a at. carried_on g has_stop other j a agree (win.carried m a at);
  rises = win.rises;
  passes = λ m n a b at there less w t.
      let was = through_on g other has_stop a.place j w (λ k before. sym (agree k before)) t in
      subst (λ (l : List Place). Contains l b.place) (agree_there g has_stop other j w agree t.there)
      (win.passes m n a b at there less w was);
  written = win.written;
  last = win.last;
  all = λ w there i c. win.all w there i (subst (λ (l : List Place). Contains l i) (sym (agree_there g has_stop other j w agree there)) c);
}
