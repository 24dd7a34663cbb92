-- The groups of a run are shown to a list of watchers one after the other.
use Rattle.std.proofs.Common.{◌≡◌, ◌+◌, ◌∷◌, ◌++◌, [], All, length, map, zip, ℕ, zero, suc, true, false, not, cond, List, refl, sym, ap, ◌∙◌, subst, arith, inl, inr, append_assoc, flat_map, take}
use Rattle.std.specs.List.{enumerate_from, range_with_len}
use Rattle.std.proofs.Math.Seq.{take-length}
use Rattle.std.proofs.lemmas.List.{length-map}
use Rattle.std.proofs.lemmas.List.FromFn.{length-range_with_len}
use Rattle.ia_program.specs.declared.ending.GroupEvent.{GroupEvent}
use Rattle.watch_seam.specs.Watchers.{WatchState, after, is_full}
use Rattle.watch_seam.specs.Watching.{AwaitsGroups, Numbered, numbered, numbered_report, reports_after, left_after, reports, after_all, staying, IsAmidGroup, IsCutShort}

-- What the watchers have seen, without their numbers.
abbrev states : List Numbered → List WatchState
states ws = map (λ w. w.1) ws

states_of_zip : (ns : List ℕ) (ws : List WatchState) → length ns ≡ length ws → states (zip ns ws) ≡ ws
states_of_zip [] [] same = refl
states_of_zip [] (w ∷ ws) same = cc
states_of_zip (n ∷ ns) [] same = cc
states_of_zip (n ∷ ns) (w ∷ ws) same = ap (λ xs. w ∷ xs) (states_of_zip ns ws (omega (arith, same)))

-- From a number on.
zip_is_numbered : (n : ℕ) (ws : List WatchState) → zip (range_with_len n (length ws)) ws ≡ enumerate_from n ws
zip_is_numbered n [] = refl
zip_is_numbered n (w ∷ ws) = ap (λ xs. (n, w) ∷ xs) (zip_is_numbered (n + 1) ws)

-- A watcher that is full stays full.
stays_full : (events : List GroupEvent) (w : WatchState) → is_full w ≡ true → is_full (after_all events w) ≡ true
stays_full [] w full = full
stays_full (e ∷ events) w full = stays_full events (after w e) (grind (arith, full))

has_room_of : (w : WatchState) → is_full w ≡ false → AwaitsGroups w
has_room_of w more = grind (arith, more)

not_full_of : (w : WatchState) → AwaitsGroups w → is_full w ≡ false
not_full_of w room = grind (arith, room)

-- Those that are left after a group stay at the end where they would have stayed from the beginning.
stay_on : (e : GroupEvent) (events : List GroupEvent) (ws : List Numbered)
    → staying events (states (left_after e ws)) ≡ staying (e ∷ events) (states ws)
stay_on e events [] = refl
stay_on e events (w ∷ ws) =
    elim (is_full (after w.1 e)) as (λ t. is_full (after w.1 e) ≡ t
    → staying events (states (left_after e (w ∷ ws))) ≡ staying (e ∷ events) (states (w ∷ ws))) [
      | true ↦ (λ full. rw (full, stays_full events (after w.1 e) full) (stay_on e events ws))
      | false ↦ (λ more. rw more (ap (λ rest. cond (not (is_full (after_all events (after w.1 e))))
          (after_all events (after w.1 e) ∷ rest) rest) (stay_on e events ws)))
    ]
    refl

nobody_has_room : All AwaitsGroups []
nobody_has_room k d below = absurd (omega (arith, below))

and_room : (w : WatchState) (ws : List WatchState) → AwaitsGroups w → All AwaitsGroups ws → All AwaitsGroups (w ∷ ws)
and_room w ws room rooms zero d below = room
and_room w ws room rooms (suc k) d below = rooms k d (omega (arith, below))

left_has_room : (e : GroupEvent) (ws : List Numbered) → All AwaitsGroups (states (left_after e ws))
left_has_room e [] = nobody_has_room
left_has_room e (w ∷ ws) =
    elim (is_full (after w.1 e)) as (λ t. is_full (after w.1 e) ≡ t → All AwaitsGroups (states (left_after e (w ∷ ws)))) [
      | true ↦ (λ full. rw full (left_has_room e ws))
      | false ↦ (λ more. rw more (and_room (after w.1 e) (states (left_after e ws)) (has_room_of (after w.1 e) more) (left_has_room e ws)))
    ]
    refl

all_stay : (ws : List WatchState) → All AwaitsGroups ws → staying [] ws ≡ ws
all_stay [] room = refl
all_stay (w ∷ ws) room =
    rw (not_full_of w (room 0 w (omega arith))) (ap (λ xs. w ∷ xs) (all_stay ws (λ k d below. room (suc k) d (omega (arith, below)))))

-- Where those that are left after a group are cut short, all are.
one_later : (e : GroupEvent) (events : List GroupEvent) (count : ℕ) (w : WatchState) (left ws now : List WatchState)
    → ((now : List WatchState) → IsAmidGroup events count left now → IsAmidGroup (e ∷ events) (suc count) ws now)
    → IsAmidGroup events count (after w e ∷ left) now → IsAmidGroup (e ∷ events) (suc count) (w ∷ ws) now
one_later e events count w left ws now others (inl a) = inl (a.0, others now a.1)
one_later e events count w left ws now others (inr a) = inr (a.0, a.1, a.2, a.3, others a.1 a.4)

amid_later : (e : GroupEvent) (events : List GroupEvent) (count : ℕ) (ws : List Numbered) (now : List WatchState)
    → IsAmidGroup events count (states (left_after e ws)) now → IsAmidGroup (e ∷ events) (suc count) (states ws) now
amid_later e events count [] now = λ a. a
amid_later e events count (w ∷ ws) now =
    elim (is_full (after w.1 e)) as (λ t. is_full (after w.1 e) ≡ t → IsAmidGroup events count (states (left_after e (w ∷ ws))) now
    → IsAmidGroup (e ∷ events) (suc count) (states (w ∷ ws)) now) [
      | true ↦ (λ full a. inl (stays_full (take (suc count) events) (after w.1 e) full, amid_later e events count ws now (rw full at a)))
      | false ↦ (λ more a. one_later e events count w.1 (states (left_after e ws)) (states ws) now (amid_later e events count ws)
          (rw more at a))
    ]
    refl

pub unchanged : (events : List GroupEvent) (ws : List WatchState) → IsCutShort events ws ws
unchanged events ws = (0, all ws)
  where
    all : (ws : List WatchState) → IsAmidGroup events 0 ws ws
    all [] = refl
    all (w ∷ ws) = inr (w, ws, refl, inl refl, all ws)

amid_first : (e : GroupEvent) (events : List GroupEvent) (ws now : List WatchState) → IsAmidGroup (e ∷ []) 0 ws now
    → IsAmidGroup (e ∷ events) 0 ws now
amid_first e events [] now a = a
amid_first e events (w ∷ ws) now (inl a) = inl (a.0, amid_first e events ws now a.1)
amid_first e events (w ∷ ws) now (inr a) = inr (a.0, a.1, a.2, a.3, amid_first e events ws a.1 a.4)

-- The list that was handed in, what it reports over all groups of a run, and the groups that are still to come.
pub record IsWatched {B : Type 0} (seen : B → WatchState) (all : List GroupEvent) (old : List WatchState) (events : List GroupEvent)
    (text numbers : List ℕ) (list : List B) : Type 0 where
  pub as_many : length numbers ≡ length list
  pub room : All AwaitsGroups (map seen list)
  pub reported : text ++ reports events (zip numbers (map seen list)) ≡ reports all (numbered old)
  pub stay : staying events (map seen list) ≡ staying all old
  pub cut : (now : List WatchState) → IsCutShort events (map seen list) now → IsCutShort all old now

pub at_beginning : {B : Type 0} (seen : B → WatchState) (all : List GroupEvent) (text numbers : List ℕ) (list : List B)
    → All AwaitsGroups (map seen list) → text ≡ [] → numbers ≡ range_with_len 0 (length list)
    → IsWatched seen all (map seen list) all text numbers list
at_beginning seen all text numbers list room none from_0 =
    record {
      as_many = ap length from_0 ∙ length-range_with_len 0 (length list);
      room = room;
      reported = rw (none, from_0) (ap (reports all) numbers_are);
      stay = refl;
      cut = λ now c. c;
    }
  where
    numbers_are : zip (range_with_len 0 (length list)) (map seen list) ≡ numbered (map seen list)
    numbers_are = ap (λ n. zip (range_with_len 0 n) (map seen list)) (sym (length-map list seen)) ∙ zip_is_numbered 0 (map seen list)

-- What those that are left have seen.
left_are : {B : Type 0} (seen : B → WatchState) (e : GroupEvent) (ws : List Numbered) (numbers : List ℕ) (list : List B)
    → length numbers ≡ length list → zip numbers (map seen list) ≡ left_after e ws
    → map seen list ≡ states (left_after e ws)
left_are seen e ws numbers list as_many left =
    sym (states_of_zip numbers (map seen list) (as_many ∙ sym (length-map list seen))) ∙ ap states left

-- The watchers that are left are still to see groups.
pub still_room : {B : Type 0} (seen : B → WatchState) (e : GroupEvent) (ws : List Numbered) (numbers : List ℕ) (list : List B)
    → length numbers ≡ length list → zip numbers (map seen list) ≡ left_after e ws → All AwaitsGroups (map seen list)
still_room seen e ws numbers list as_many left =
    subst (All AwaitsGroups) (sym (left_are seen e ws numbers list as_many left)) (left_has_room e ws)

-- One group further.
pub one_further : {B : Type 0} (seen : B → WatchState) (all : List GroupEvent) (old : List WatchState) (e : GroupEvent)
    (events : List GroupEvent) (text numbers : List ℕ) (list : List B) (text_1 numbers_1 : List ℕ) (list_1 : List B)
    → IsWatched seen all old (e ∷ events) text numbers list → length numbers_1 ≡ length list_1
    → text_1 ≡ text ++ reports_after e (zip numbers (map seen list))
    → zip numbers_1 (map seen list_1) ≡ left_after e (zip numbers (map seen list))
    → IsWatched seen all old events text_1 numbers_1 list_1
one_further seen all old e events text numbers list text_1 numbers_1 list_1 w as_many reported left =
    let before : states (zip numbers (map seen list)) ≡ map seen list =
    states_of_zip numbers (map seen list) (w.as_many ∙ sym (length-map list seen)) in
    let now = left_are seen e (zip numbers (map seen list)) numbers_1 list_1 as_many left in
    record {
      as_many = as_many;
      room = still_room seen e (zip numbers (map seen list)) numbers_1 list_1 as_many left;
      reported =
          rw (reported, left) (append_assoc text (reports_after e (zip numbers (map seen list)))
          (reports events (left_after e (zip numbers (map seen list)))) ∙ w.reported);
      stay = ap (staying events) now ∙ stay_on e events (zip numbers (map seen list)) ∙ ap (staying (e ∷ events)) before ∙ w.stay;
      cut = λ later c. w.cut later (
        suc c.0,
        subst (λ ws. IsAmidGroup (e ∷ events) (suc c.0) ws later) before
            (amid_later e events c.0 (zip numbers (map seen list)) later (subst (λ ws. IsAmidGroup events c.0 ws later) now c.1)),
      );
    }

-- Where the group couldn't be shown to all.
pub cut_amid : {B : Type 0} (seen : B → WatchState) (all : List GroupEvent) (old : List WatchState) (e : GroupEvent)
    (events : List GroupEvent) (text numbers : List ℕ) (list : List B) (now : List WatchState)
    → IsWatched seen all old (e ∷ events) text numbers list → IsAmidGroup (e ∷ []) 0 (map seen list) now → IsCutShort all old now
cut_amid seen all old e events text numbers list now w a = w.cut now (0, amid_first e events (map seen list) now a)

-- Where it was given up between two groups.
pub cut_between : {B : Type 0} (seen : B → WatchState) (all : List GroupEvent) (old : List WatchState) (events : List GroupEvent)
    (text numbers : List ℕ) (list : List B)
    → IsWatched seen all old events text numbers list → IsCutShort all old (map seen list)
cut_between seen all old events text numbers list w = w.cut (map seen list) (unchanged events (map seen list))

-- Where no group is to come.
pub at_last : {B : Type 0} (seen : B → WatchState) (all : List GroupEvent) (old : List WatchState) (text numbers : List ℕ) (list : List B)
    → IsWatched seen all old [] text numbers list → (text ++ flat_map numbered_report (zip numbers (map seen list))
    ≡ reports all (numbered old)) × (map seen list ≡ staying all old)
at_last seen all old text numbers list w = (w.reported, sym (all_stay (map seen list) w.room) ∙ w.stay)

take_more : {A : Type 0} (xs : List A) → take (suc (length xs)) xs ≡ xs
take_more [] = refl
take_more (x ∷ xs) = ap (λ ys. x ∷ ys) (take_more xs)

-- Where it was given up after all groups.
amid_last : (events : List GroupEvent) (ws : List WatchState) → IsAmidGroup events (length events) ws (staying events ws)
amid_last events [] = refl
amid_last events (w ∷ ws) =
    elim (is_full (after_all events w)) as (λ t. is_full (after_all events w) ≡ t
    → IsAmidGroup events (length events) (w ∷ ws) (staying events (w ∷ ws))) [
      | true ↦ (λ full. rw full (inl (ap (λ seen. is_full (after_all seen w)) (take_more events) ∙ full, amid_last events ws)))
      | false ↦ (λ more. rw more (inr (
        after_all events w,
        staying events ws,
        refl,
        inl (ap (λ seen. after_all seen w) (sym (take-length events))),
        amid_last events ws,
      )))
    ]
    refl

pub cut_at_end : (events : List GroupEvent) (ws : List WatchState) → IsCutShort events ws (staying events ws)
cut_at_end events ws = (length events, amid_last events ws)
