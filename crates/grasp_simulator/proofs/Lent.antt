-- What a network lends of datagrams and streams.
use Rattle.std.proofs.Common.{◌≡◌, ◌≤◌, ◌<◌, refl, sym, ap, ◌∙◌, subst, arith, ℕ, ◌+◌, ◌-◌, cond, Bool, true, false, not, List, [], ◌∷◌, length, map, nat_lt, slice_get, option_map, Option, Some, None, IfSome}
use Rattle.std.specs.List.{position, position_or_len}
use Rattle.std.specs.List.{find}
use Rattle.std.proofs.lemmas.List.Quantifiers.{position-Some}
use Rattle.std.proofs.lemmas.Option.{none-some, same_Some}
use Rattle.grasp_cbor.proofs.Facts.Lists.{length_map}
use Rattle.grasp_laws_delivery.specs.Ready.{Every, HasGoodEnds, HasGoodFar, StreamsAreReady}
use Rattle.grasp_laws_network.proofs.LivesKept.{lives_are_kept, life_member}
use Rattle.grasp_model_network.specs.Plans.{IsNode}
use Rattle.grasp_model_network.specs.Setting.{Setting, counted_from_1, member_at, numbered}
use Rattle.grasp_model_network.specs.StreamChanges.{Reached, reached_at, reached_in, reached_side, side_named}
use Rattle.grasp_model_network.specs.Streams.{StreamEnd, StreamState, end_at, has_end, is_number, is_reached, is_waiting, side_at, stream_numbered}
use Rattle.grasp_model_network.specs.World.{SentDatagram, WorldState, end_of, member_of}
use Rattle.grasp_session.specs.Messages.{Side, Near, Far}
use Rattle.grasp_simulator.specs.Arriving.{waiting_by, waiting_in}
use Rattle.grasp_simulator.specs.Lending.{LendsFirst, LendsNext, LendsParcel, LendsSide, StandsFor, TellsNumber, TellsStream, TellsWaiting, comes_so, dialled_at, is_so, next_from, side_lent, waiting_at, waiting_for}
use Rattle.grasp_simulator.specs.Listening.{listener_from}
use Rattle.grasp_simulator.specs.Marking.{begins_as}
use Rattle.grasp_simulator.specs.StreamParts.{is_unopened, piece_at, side_of}
use Rattle.grasp_simulator.specs.StreamsStand.{IsTalk, StreamStands, arrival_of}
use Rattle.grasp_simulator.specs.WorldStands.{WorldGoes, WorldKeeps, parcel_of}
use Rattle.grasp_simulator.specs.declared.parcel.Parcel.{Parcel}
use Rattle.grasp_simulator.specs.declared.seat.Seat.{Seat as SeatCode}
use Rattle.grasp_simulator.specs.declared.stream.LifeEnd.{LifeEnd}
use Rattle.grasp_simulator.specs.declared.stream.Standing.{Standing}
use Rattle.grasp_simulator.specs.declared.stream.Standing.TheVariants as standing
use Rattle.grasp_simulator.specs.declared.stream.Stream.{Stream}
use Rattle.grasp_simulator.specs.declared.world.World.{World}
use Rattle.grasp_simulator.specs.declared.world_arrivals.Waiting.{Waiting}
use Rattle.grasp_simulator.specs.declared.world_lends.SideEnd.{SideEnd}
use Rattle.grasp_simulator.proofs.DatagramsGo.{numbered_map}
use Rattle.grasp_simulator.proofs.Listeners.{listener_is}
use Rattle.grasp_simulator.proofs.Presence.{OwnSeat, own_at}
use Rattle.grasp_simulator.proofs.SideEnds.{IsEnd, IsSide, side_is}
use Rattle.grasp_simulator.proofs.StreamMoves.{piece_is}
use Rattle.grasp_simulator.proofs.StreamTalks.{Chosen, found_is, talk_at}

-- ---- datagrams

pub parcel_lent : (code : World) (index : ℕ) (found : Option Parcel) → found ≡ numbered code.parcels index → LendsParcel code index found
parcel_lent code index found is s w h = is ∙ (ap (λ (ps : List Parcel). numbered ps index) h.stands.goes.keeps.parcels ∙ numbered_map parcel_of w.datagrams index)

place_map : {A : Type 0} {B : Type 0} (f : A → B) (p : B → Bool) (xs : List A) → position_or_len p (map f xs) ≡ position_or_len (λ x. p (f x)) xs
place_map f p [] = refl
place_map f p (x ∷ xs) = ap (λ (n : ℕ). cond (not (p (f x))) (1 + n) 0) (place_map f p xs)

position_map : {A : Type 0} {B : Type 0} (f : A → B) (p : B → Bool) (xs : List A) → position p (map f xs) ≡ position (λ x. p (f x)) xs
position_map f p xs =
    ap (λ (n : ℕ). cond (nat_lt n (length (map f xs))) (Some n) None) (place_map f p xs)
    ∙ ap (λ (l : ℕ). cond (nat_lt (position_or_len (λ x. p (f x)) xs) l) (Some (position_or_len (λ x. p (f x)) xs)) None) (length_map f xs)

pub first_lent : (code : World) (node link from : ℕ) (bytes : List ℕ) (found : Option ℕ) → found ≡ counted_from_1 (position (is_so node link from bytes) code.parcels) → LendsFirst code node link from bytes found
first_lent code node link from bytes found is s w h =
    is ∙ (ap (λ (ps : List Parcel). counted_from_1 (position (is_so node link from bytes) ps)) h.stands.goes.keeps.parcels ∙ ap counted_from_1 (position_map parcel_of (is_so node link from bytes) w.datagrams))

-- the place is one of theirs
pub place_within : (p : Parcel → Bool) (xs : List Parcel) (o : Option ℕ) → o ≡ position p xs → IfSome o (λ i. i < length xs)
place_within p xs None is = tt
place_within p xs (Some i) is = (position-Some p xs i (record { receiver = 0; link = 0; from = 0; bytes = [] }) (sym is)).0

-- ---- sides

-- the next bytes of a talk
next_is : (k : ℕ) (far : Bool) (count : ℕ) (co : Option Stream) (to : Option StreamState) → IsTalk k co to → piece_at co far count ≡ next_from to (side_named far) count
next_is k far count None None h = refl
next_is k far count None (Some t) h = absurd h
next_is k far count (Some code) None h = absurd h
next_is k true count (Some code) (Some t) h = piece_is code.from_near t.from_near count h.from_near
next_is k false count (Some code) (Some t) h = piece_is code.from_far t.from_far count h.from_far

talk_is : (code : World) (s : Setting) (w : WorldState) (k : ℕ) → WorldKeeps code s w → IsTalk k (numbered code.streams.list.items k) (stream_numbered w.streams k)
talk_is code s w k keeps = talk_at code.streams.list.items code.streams.near.entries (begins_as w.lives code.marks code.plan.nodes) w.streams w.dials keeps.streams k

pub next_lent : (code : World) (k : ℕ) (far : Bool) (count : ℕ) (bytes : List ℕ) → bytes ≡ piece_at (numbered code.streams.list.items k) far count → LendsNext code k far count bytes
next_lent code k far count bytes is s w h =
    is ∙ next_is k far count (numbered code.streams.list.items k) (stream_numbered w.streams k) (talk_is code s w k h.stands.goes.keeps)

-- ---- whose side it is

far_known : (s : Setting) (nodes : ℕ) (number : Option ℕ) (far : Option StreamEnd) (e : StreamEnd) → HasGoodFar s nodes number far → far ≡ Some e → IsNode nodes e.node
far_known s nodes number None e h is = absurd (none-some e is)
far_known s nodes None (Some f) e h is = absurd h
far_known s nodes (Some k) (Some f) e h is = subst (λ (x : StreamEnd). IsNode nodes x.node) (same_Some f e is) h.0

end_known : (s : Setting) (nodes dials : ℕ) (t : StreamState) (side : Side) (e : StreamEnd) → HasGoodEnds s nodes dials t.near t.number t.far → end_at t side ≡ Some e → IsNode nodes e.node
end_known s nodes dials t Near e h is = subst (λ (x : StreamEnd). IsNode nodes x.node) (same_Some t.near e is) h.member
end_known s nodes dials t Far e h is = far_known s nodes t.number t.far e h.opened is

-- the stream of a number has good ends
good_ends : (law : StreamsAreReady) (code : World) (s : Setting) (w : WorldState) (k : ℕ) (t : StreamState) → WorldGoes code s w → stream_numbered w.streams k ≡ Some t → HasGoodEnds s (length w.seats) w.dials t.near t.number t.far
good_ends law code s w k t goes is =
    let chosen : Chosen (λ (x : StreamState). HasGoodEnds s (length w.seats) w.dials x.near x.number x.far) (λ (x : StreamState). is_number k x.number) t =
    found_is (λ (x : StreamState). HasGoodEnds s (length w.seats) w.dials x.near x.number x.far) (λ (x : StreamState). is_number k x.number) w.streams t is (law.ends s w goes.reached) in
    chosen.holds

-- whose life it is is known
life_known : (code : World) (s : Setting) (w : WorldState) (life : ℕ) → WorldGoes code s w → IsNode (length w.seats) life → numbered code.lives life ≡ Some (member_of w life)
life_known code s w life goes is = ap (λ (ks : List ℕ). numbered ks life) goes.keeps.lives ∙ life_member s w life (lives_are_kept s w goes.reached) is

-- the end that is reached is one of the stream's
reached_end : (t : StreamState) (b : Bool) (o : Option StreamEnd) (x : Reached) → reached_at t b o ≡ Some x → o ≡ Some x.at
reached_end t true None x e = absurd (none-some x e)
reached_end t true (Some end) x e = ap (λ (y : Reached). Some y.at) (same_Some (record { talk = t; at = end }) x e)
reached_end t false o x e = absurd (none-some x e)

side_life : (law : StreamsAreReady) (code : World) (s : Setting) (w : WorldState) (k : ℕ) (side : Side) (o : Option StreamState) (x : Reached) → WorldGoes code s w → stream_numbered w.streams k ≡ o → reached_in side o ≡ Some x
    → numbered code.lives x.at.node ≡ Some (member_of w x.at.node)
side_life law code s w k side None x goes is e = absurd (none-some x e)
side_life law code s w k side (Some t) x goes is e =
    life_known code s w x.at.node goes (end_known s (length w.seats) w.dials t side x.at (good_ends law code s w k t goes is) (reached_end t (is_reached (side_at t side)) (end_at t side) x e))

-- the code's side with its member
abbrev pub side_by : Option LifeEnd → (ℕ → Option ℕ) → Option SideEnd
side_by None member = None
side_by (Some e) member = option_map (λ node. record { node = node; number = e.number }) (member e.life)

side_from : (code : World) (w : WorldState) (co : Option Stream) (far : Bool) (e : Option LifeEnd) (o : Option Reached) → IsSide co far e o → ((x : Reached) → o ≡ Some x → numbered code.lives x.at.node ≡ Some (member_of w x.at.node))
    → side_by e (numbered code.lives) ≡ side_lent w o
side_from code w co far None None h known = refl
side_from code w co far None (Some x) h known = absurd h
side_from code w co far (Some e) None h known = absurd h
side_from code w co far (Some e) (Some x) h known =
    ap (λ (end : StreamEnd). option_map (λ node. record { node = node; number = end.number }) (numbered code.lives end.node)) (sym h.at)
    ∙ ap (option_map (λ node. record { node = node; number = x.at.number })) (known x refl)

pub side_is_lent : (law : StreamsAreReady) (code : World) (k : ℕ) (far : Bool) (found : Option SideEnd) → found ≡ side_by (side_of (numbered code.streams.list.items k) k far) (numbered code.lives) → LendsSide code k far found
unfolding reached_side
side_is_lent law code k far found is s w h =
    let goes : WorldGoes code s w = h.stands.goes in
    is ∙ side_from code w (numbered code.streams.list.items k) far (side_of (numbered code.streams.list.items k) k far) (reached_in (side_named far) (stream_numbered w.streams k))
    (side_is code.streams.list.items code.streams.near.entries (begins_as w.lives code.marks code.plan.nodes) w.streams w.dials goes.keeps.streams k far)
    (λ x e. side_life law code s w k (side_named far) (stream_numbered w.streams k) x goes refl e)

-- ---- who waits

unopened : (x : Standing) → is_waiting (arrival_of x) ≡ is_unopened x
unopened standing.NotYet = refl
unopened _ = refl

waits_by : (w : WorldState) (t : StreamState) (near : Option ℕ) (o : Option ℕ) → near ≡ Some (member_of w t.near.node) → waiting_by near o ≡ waiting_at w t o
waits_by w t near None is = refl
waits_by w t near (Some node) is = ap (λ (n : Option ℕ). waiting_by n (Some node)) is

waits_so : (law : StreamsAreReady) (code : World) (s : Setting) (w : WorldState) (k : ℕ) (co : Option Stream) (to : Option StreamState) → WorldGoes code s w → stream_numbered w.streams k ≡ to → IsTalk k co to
    → waiting_in code.lives code.plan.nodes co ≡ waiting_for s w to
waits_so law code s w k None None goes is h = refl
waits_so law code s w k None (Some t) goes is h = absurd h
waits_so law code s w k (Some c) None goes is h = absurd h
waits_so law code s w k (Some c) (Some t) goes is h =
    let life : t.near.node ≡ c.near = ap (λ (e : StreamEnd). e.node) h.near in
    let known : numbered code.lives c.near ≡ Some (member_of w t.near.node) =
    ap (numbered code.lives) (sym life) ∙ life_known code s w t.near.node goes (good_ends law code s w k t goes is).member in
    let listens : listener_from 1 code.plan.nodes c.to ≡ member_at s t.to =
    listener_is code.plan c.to ∙ (ap (λ (q : Setting). member_at q c.to) (sym goes.keeps.setting) ∙ ap (member_at s) h.to) in
    ap (λ (o : Option ℕ). cond (is_unopened c.far_side) (waiting_by (numbered code.lives c.near) o) None) listens
    ∙ (ap (λ (o : Option Waiting). cond (is_unopened c.far_side) o None) (waits_by w t (numbered code.lives c.near) (member_at s t.to) known)
    ∙ ap (λ (b : Bool). cond b (waiting_at w t (member_at s t.to)) None) (sym (unopened c.far_side) ∙ ap is_waiting h.far_side))

pub waiting_told : (law : StreamsAreReady) (code : World) (k : ℕ) (found : Option Waiting) → found ≡ waiting_in code.lives code.plan.nodes (numbered code.streams.list.items k) → TellsWaiting code k found
waiting_told law code k found is s w h =
    is ∙ waits_so law code s w k (numbered code.streams.list.items k) (stream_numbered w.streams k) h.stands.goes refl (talk_is code s w k h.stands.goes.keeps)

-- ---- the stream of a number at a node

pub stream_told : (code : World) (node number : ℕ) (own : SeatCode) (found : Option (ℕ × Bool)) → Some own ≡ slice_get code.seats.items (node - 1) → TellsNumber code.streams own.life number found → TellsStream code node number found
stream_told code node number own found got tells s w h =
    let keeps : WorldKeeps code s w = h.stands.stands.goes.keeps in
    let here : OwnSeat w node own = own_at code s w node (node - 1) own keeps h.is_node.least refl (sym got) in
    tells (begins_as w.lives code.marks code.plan.nodes) w.streams w.dials keeps.streams
    ∙ ap (λ (life : ℕ). dialled_at (end_of life number) (find (has_end (end_of life number)) w.streams)) here.life
