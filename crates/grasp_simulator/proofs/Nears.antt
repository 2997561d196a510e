-- A stream was dialled from an end, whatever happens then.
use Rattle.std.proofs.Common.{◌≡◌, ◌≤◌, refl, ap, ◌∙◌, arith, ℕ, zero, suc, ◌+◌, ◌/◌, Bool, true, false, cond, is_some, List, [], ◌∷◌, ◌++◌, Option, Some, None, slice_get, ◌==◌, ◌||◌, ◌%◌, nat_lt, ◌&&◌}
use Rattle.std.specs.List.{count_by, list_any}
use Rattle.std.proofs.lemmas.Bool.{and_parts, and_from, or_left, or_right}
use Rattle.std.proofs.lemmas.List.Sums.{sum_by-cons}
use Rattle.std.proofs.lemmas.Option.{none-some, same_Some}
use Rattle.grasp_laws_delivery.proofs.Ends.{end_itself}
use Rattle.grasp_laws_network.proofs.Lists.{slice_map}
use Rattle.grasp_model_node.specs.Queue.{Queued, datagram, dial, send}
use Rattle.grasp_session.specs.Messages.{Side, Near, Far}
use Rattle.grasp_types.specs.declared.address.Locator.{Locator}
use Rattle.grasp_types.specs.declared.message.Message.{Message}
use Rattle.grasp_model_network.specs.Sending.{streams_made}
use Rattle.grasp_model_network.specs.Streams.{StreamEnd, StreamState, fresh_stream, is_same_end, is_at_end, side_of_end, has_end, count_at_end, changed_by, at_end, change_at_end, with_said, is_number}
use Rattle.grasp_model_network.specs.World.{end_of}
use Rattle.grasp_simulator.specs.Listening.{listener_from}
use Rattle.grasp_simulator.specs.Marking.{is_below, matches, is_marked, is_here, begins_as, WasDialled}
use Rattle.grasp_simulator.specs.declared.marks.Mark.{Mark}
use Rattle.grasp_simulator.proofs.StreamMakes.{AreKnown}

-- ---- what stays

pub push_get : {A : Type 0} (xs : List A) (x a : A) (i : ℕ) → slice_get xs i ≡ Some a → slice_get (xs ++ x ∷ []) i ≡ Some a
push_get [] x a i e = absurd (none-some a e)
push_get (y ∷ ys) x a zero e = e
push_get (y ∷ ys) x a (suc i) e = push_get ys x a i e

abbrev pub KeepsNear : (StreamState → Side → StreamState) → Type 0
KeepsNear f = (t : StreamState) (side : Side) → (f t side).near ≡ t.near

near_by : (f : StreamState → Side → StreamState) → KeepsNear f → (t : StreamState) (o : Option Side) → (changed_by f t o).near ≡ t.near
near_by f keeps t None = refl
near_by f keeps t (Some side) = keeps t side

pub still_changed : (f : StreamState → Side → StreamState) → KeepsNear f → (ts : List StreamState) (q e : StreamEnd) → WasDialled ts e → WasDialled (change_at_end ts q f) e
still_changed f keeps ts q e d = record {
  place = d.place;
  talk = at_end q f d.talk;
  stands = slice_map (at_end q f) ts d.place d.talk d.stands;
  near = near_by f keeps d.talk (side_of_end q d.talk) ∙ d.near;
}

pub still_pushed : (ts : List StreamState) (x : StreamState) (e : StreamEnd) → WasDialled ts e → WasDialled (ts ++ x ∷ []) e
still_pushed ts x e d = record { place = d.place; talk = d.talk; stands = push_get ts x d.talk d.place d.stands; near = d.near }

said_near : (m : Message) → KeepsNear (with_said m)
said_near m t side = refl

pub still_made : (node : ℕ) (qs : List Queued) (ts : List StreamState) (e : StreamEnd) → WasDialled ts e → WasDialled (streams_made node ts qs) e
unfolding streams_made
still_made node [] ts e d = d
still_made node (datagram link to m ∷ qs) ts e d = still_made node qs ts e d
still_made node (dial stream to ∷ qs) ts e d =
    let new : StreamState = fresh_stream (end_of node stream) to in still_made node qs (ts ++ new ∷ []) e (still_pushed ts new e d)
still_made node (send stream m ∷ qs) ts e d =
    still_made node qs (change_at_end ts (end_of node stream) (with_said m)) e (still_changed (with_said m) (said_near m) ts (end_of node stream) e d)

-- ---- what it says

-- the end is one of that stream
pub near_has : (t : StreamState) (e : StreamEnd) → t.near ≡ e → has_end e t ≡ true
near_has t e near =
    let same : is_same_end e t.near ≡ true = ap (is_same_end e) near ∙ end_itself e in
    ap (λ b. is_some (cond b (Some Near) (cond (is_at_end e t.far) (Some Far) None))) same

counts_at : (p : StreamState → Bool) (ts : List StreamState) (i : ℕ) (t : StreamState) → slice_get ts i ≡ Some t → p t ≡ true → 1 ≤ count_by p ts
counts_at p [] i t got is = absurd (none-some t got)
counts_at p (x ∷ xs) zero t got is =
    let one : StreamState → ℕ = λ y. cond (p y) 1 0 in
    let all : count_by p (x ∷ xs) ≡ one x + count_by p xs = sum_by-cons one x xs in
    let first : one x ≡ 1 = ap (λ b. cond b 1 0) (ap p (same_Some x t got) ∙ is) in
    omega (arith, all, first)
counts_at p (x ∷ xs) (suc i) t got is =
    let one : StreamState → ℕ = λ y. cond (p y) 1 0 in
    let all : count_by p (x ∷ xs) ≡ one x + count_by p xs = sum_by-cons one x xs in
    let rest : 1 ≤ count_by p xs = counts_at p xs i t got is in
    omega (arith, all, rest)

-- so the end is counted
pub dialled_counts : (ts : List StreamState) (e : StreamEnd) → WasDialled ts e → 1 ≤ count_at_end ts e
dialled_counts ts e d = counts_at (has_end e) ts d.place d.talk d.stands (near_has d.talk e d.near)

-- ---- marks

-- what a mark says of a stream it says of its near end
mark_below : (e : StreamEnd) (nodes : ℕ) (to : Locator) (m : Mark) → matches e nodes to m ≡ true → is_below e m ≡ true
mark_below e nodes to m is =
    let a = and_parts (m.life == e.node) (nat_lt (e.number / 2) m.dialled && is_number m.node (listener_from 1 nodes to)) is in
    let b = and_parts (nat_lt (e.number / 2) m.dialled) (is_number m.node (listener_from 1 nodes to)) a.1 in
    and_from (m.life == e.node) (nat_lt (e.number / 2) m.dialled) a.0 b.0

pub marked_below : (marks : List Mark) (nodes : ℕ) (e : StreamEnd) (to : Locator) → is_marked marks nodes e to ≡ true → list_any (is_below e) marks ≡ true
marked_below [] nodes e to is = is
marked_below (m ∷ ms) nodes e to is = by_first (matches e nodes to m) refl (marked_below ms nodes e to) is where
  by_first : (b : Bool) → matches e nodes to m ≡ b → (is_marked ms nodes e to ≡ true → list_any (is_below e) ms ≡ true) → (b || is_marked ms nodes e to) ≡ true
      → (is_below e m || list_any (is_below e) ms) ≡ true
  by_first true f rest g = or_left (is_below e m) (list_any (is_below e) ms) (mark_below e nodes to m f)
  by_first false f rest g = or_right (is_below e m) (list_any (is_below e) ms) (rest g)

-- a stream whose far side begins told that it is closed is one of which a mark speaks
pub begins_marked : (lives : List ℕ) (marks : List Mark) (nodes : ℕ) (e : StreamEnd) (to : Locator) → begins_as lives marks nodes e to ≡ Some true → is_marked marks nodes e to ≡ true
begins_marked lives marks nodes e to is = by_here (is_here lives e.node) is where
  by_here : (b : Bool) → cond b (Some (is_marked marks nodes e to)) None ≡ Some true → is_marked marks nodes e to ≡ true
  by_here true f = same_Some (is_marked marks nodes e to) true f
  by_here false f = absurd (none-some true f)

pub marks_known : (lives : List ℕ) (marks : List Mark) (nodes : ℕ) (ts : List StreamState) → ((e : StreamEnd) → e.number % 2 ≡ 0 → list_any (is_below e) marks ≡ true → WasDialled ts e)
    → AreKnown (begins_as lives marks nodes) ts
marks_known lives marks nodes ts known e to even is =
    dialled_counts ts e (known e even (marked_below marks nodes e to (begins_marked lives marks nodes e to is)))
