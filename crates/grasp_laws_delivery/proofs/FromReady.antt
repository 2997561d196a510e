-- What follows of this: no two streams have one end, and what is queued can be sent in order.
use Rattle.std.proofs.Common.{◌≡◌, ◌≢◌, refl, sym, ap, ◌∙◌, subst, arith, ℕ, zero, suc, ◌≤◌, ◌<◌, ◌%◌, ◌==◌, Bool, true, false, cond, is_some, ◌⊎◌, inl, inr, List, [], ◌∷◌, ◌++◌, length, Option, None, Some, slice_get}
use Rattle.std.proofs.lemmas.Bool.Decides.{eqb_tells}
use Rattle.std.proofs.lemmas.Option.{none-some, same_Some as some_same}
use Rattle.grasp_model_node.specs.Queue.{Queued, datagram, dial, send}
use Rattle.grasp_session.specs.Messages.{Side, Near, Far}
use Rattle.grasp_types.specs.declared.address.Locator.{Locator}
use Rattle.grasp_types.specs.declared.message.Message.{Message}
use Rattle.grasp_model_network.proofs.Facts.{number_is, number_passes}
use Rattle.grasp_model_network.specs.EventSteps.{arrival_visit}
use Rattle.grasp_model_network.specs.Plans.{IsNode}
use Rattle.grasp_model_network.specs.Runs.{IsReached}
use Rattle.grasp_model_network.specs.Setting.{Setting}
use Rattle.grasp_model_network.specs.Streams.{StreamEnd, StreamState, end_at, has_end, side_of_end, count_at_end, is_number, with_number, with_sent, at_end, change_at_end, stream_numbered}
use Rattle.grasp_model_network.specs.Visits.{Visit}
use Rattle.grasp_model_network.specs.World.{Seat, WorldState, seat_at, end_of}
use Rattle.grasp_laws_delivery.specs.Ready.{Every, IsDialOf, WaitsFor, IsSent, AreSent, AreReady, HasGoodNumber, HasGoodFar, HasGoodEnds, StreamsAreReady}
use Rattle.grasp_laws_delivery.proofs.Fresh.{DialsAreFresh, queued_append, queued_elsewhere}
use Rattle.grasp_laws_delivery.proofs.Came.Inputs.{IsOpening, opening_is}
use Rattle.grasp_laws_delivery.proofs.OnePlace.{Placed, numbered_place, has_it, none_counted, some_counted, Counted, one_passing}
use Rattle.grasp_laws_delivery.proofs.Said.Talks.{direction_ends}
use Rattle.grasp_laws_delivery.proofs.SaneNetworks.{sane}
use Rattle.grasp_laws_delivery.proofs.Sides.{IsDistinct, end_found, at_end_has, each_changed, place_changed}
use Rattle.grasp_laws_delivery.specs.Saying.{OfEachStream, queued_for}

pub every_at : (P : StreamState → Type 0) (ts : List StreamState) → Every P ts → OfEachStream P ts
every_at P [] h place t found = absurd (none-some t found)
every_at P (x ∷ xs) h zero t found = subst P (some_same x t found) h.0
every_at P (x ∷ xs) h (suc i) t found = every_at P xs h.1 i t found

-- ---- ends

-- a far end, with the number of its stream
record IsFarOf (s : Setting) (nodes : ℕ) (number : Option ℕ) (e : StreamEnd) : Type 0 where
  k : ℕ
  is : number ≡ Some k
  least : 1 ≤ k
  member : IsNode nodes e.node
  arrives : e.number ≡ s.arrives_as e.node k

far_of : (s : Setting) (nodes dials : ℕ) (number : Option ℕ) (far : Option StreamEnd) (e : StreamEnd) → HasGoodNumber dials number → HasGoodFar s nodes number far → far ≡ Some e → IsFarOf s nodes number e
far_of s nodes dials None None e n g at = absurd (none-some e at)
far_of s nodes dials (Some k) None e n g at = absurd (none-some e at)
far_of s nodes dials None (Some f) e n g at = absurd g
far_of s nodes dials (Some k) (Some f) e n g at =
    subst (λ (x : StreamEnd). IsFarOf s nodes (Some k) x) (some_same f e at) (record { k = k; is = refl; least = n.0; member = g.0; arrives = g.1 })

not_both : (n : ℕ) → n % 2 ≡ 0 → n % 2 ≡ 1 → ⊥
not_both n a b = omega (arith, a, b)

pub distinct : StreamsAreReady → (s : Setting) (w : WorldState) → IsReached s w → OfEachStream IsDistinct w.streams
distinct ready s w r place t found e far near = by_ends (every_at (λ x. HasGoodEnds s (length w.seats) w.dials x.near x.number x.far) w.streams (ready.ends s w r) place t found) where
  by_ends : HasGoodEnds s (length w.seats) w.dials t.near t.number t.far → ⊥
  by_ends g = by_far (far_of s (length w.seats) w.dials t.number t.far e g.dialled g.opened far) where
    by_far : IsFarOf s (length w.seats) t.number e → ⊥
    by_far f =
        not_both e.number (ap (λ (x : StreamEnd). x.number % 2) (sym near) ∙ g.even)
        (ap (λ n. n % 2) f.arrives ∙ r.good.arrivals_odd e.node f.k f.least)

-- each end of a stream is at one of so many lives
pub good_within : (s : Setting) (nodes dials : ℕ) (t : StreamState) → HasGoodEnds s nodes dials t.near t.number t.far → (side : Side) (e : StreamEnd) → end_at t side ≡ Some e → IsNode nodes e.node
good_within s nodes dials t g Near e at = subst (λ (x : StreamEnd). IsNode nodes x.node) (some_same t.near e at) g.member
good_within s nodes dials t g Far e at = (far_of s nodes dials t.number t.far e g.dialled g.opened at).member

-- each end of a stream is at a life that is there
pub ends_within : StreamsAreReady → (s : Setting) (w : WorldState) → IsReached s w
    → OfEachStream (λ t. (side : Side) (e : StreamEnd) → end_at t side ≡ Some e → IsNode (length w.seats) e.node) w.streams
ends_within ready s w r place t found =
    good_within s (length w.seats) w.dials t (every_at (λ x. HasGoodEnds s (length w.seats) w.dials x.near x.number x.far) w.streams (ready.ends s w r) place t found)

-- so that no stream has one at a life that isn't there
pub none_beyond : StreamsAreReady → (s : Setting) (w : WorldState) → IsReached s w → (life stream : ℕ) → length w.seats < life
    → OfEachStream (λ t. (side : Side) → end_at t side ≢ Some (end_of life stream)) w.streams
none_beyond ready s w r life stream past place t found side at =
    let within : IsNode (length w.seats) life = ends_within ready s w r place t found side (end_of life stream) at in
    let most : life ≤ length w.seats = within.most in
    omega (arith, past, most)

-- ---- a stream that is opened

pub numbered_has : (k : ℕ) (ts : List StreamState) (t : StreamState) → stream_numbered ts k ≡ Some t → is_number k t.number ≡ true
numbered_has k [] t found = absurd (none-some t found)
numbered_has k (x ∷ xs) t found = by_test (is_number k x.number) refl found (numbered_has k xs t) where
  by_test : (b : Bool) → is_number k x.number ≡ b → cond b (Some x) (stream_numbered xs k) ≡ Some t → (stream_numbered xs k ≡ Some t → is_number k t.number ≡ true) → is_number k t.number ≡ true
  by_test true is e rest = ap (λ (y : StreamState). is_number k y.number) (sym (some_same x t e)) ∙ is
  by_test false is e rest = rest e

-- no stream has the end at which one is opened
pub new_end : StreamsAreReady → (s : Setting) (w : WorldState) → IsReached s w → (k : ℕ) (v : Visit) → arrival_visit s w k ≡ Some v
    → OfEachStream (λ t. (side : Side) → end_at t side ≢ Some (end_of v.node (s.arrives_as v.node k))) w.streams
new_end ready s w r k v is place u found = by_opening (opening_is s w k v is) where
  good : OfEachStream (λ x. HasGoodEnds s (length w.seats) w.dials x.near x.number x.far) w.streams
  good = every_at (λ x. HasGoodEnds s (length w.seats) w.dials x.near x.number x.far) w.streams (ready.ends s w r)

  by_opening : IsOpening s w k v → (side : Side) → end_at u side ≢ Some (end_of v.node (s.arrives_as v.node k))
  by_opening o = by_place (numbered_place k w.streams o.talk o.found) where
    number : is_number k o.talk.number ≡ true
    number = numbered_has k w.streams o.talk o.found

    by_place : Placed w.streams o.talk → (side : Side) → end_at u side ≢ Some (end_of v.node (s.arrives_as v.node k))
    by_place here side at = by_number (subst (λ (x : Option ℕ). HasGoodNumber w.dials x) (number_is k o.talk.number number) (good here.place o.talk here.stands).dialled) side at where
      by_number : (1 ≤ k) × (k ≤ w.dials) → (side : Side) → end_at u side ≢ Some (end_of v.node (s.arrives_as v.node k))
      by_number n Near at =
          not_both (s.arrives_as v.node k)
          (ap (λ (x : StreamEnd). x.number % 2) (sym (some_same u.near (end_of v.node (s.arrives_as v.node k)) at)) ∙ (good place u found).even) (r.good.arrivals_odd v.node k n.0)
      by_number n Far at = by_far (far_of s (length w.seats) w.dials u.number u.far (end_of v.node (s.arrives_as v.node k)) (good place u found).dialled (good place u found).opened at) where
        by_far : IsFarOf s (length w.seats) u.number (end_of v.node (s.arrives_as v.node k)) → ⊥
        by_far f =
            let same : k ≡ f.k = r.good.arrivals_apart v.node k f.k n.0 f.least f.arrives in
            let one : u ≡ o.talk = one_passing (λ x. is_number k x.number) w.streams place here.place u o.talk (ready.once s w r k n.0 n.1) found (number_passes k u.number (f.is ∙ ap (λ x. Some x) (sym same))) here.stands number in
            none-some (end_of v.node (s.arrives_as v.node k)) (sym ((sane s w r here.place o.talk here.stands).waiting o.waiting) ∙ (ap (λ (x : StreamState). x.far) (sym one) ∙ at))

-- ---- what is queued

sent_ends : (m : Message) (t : StreamState) (side x : Side) → end_at (with_sent m t x) side ≡ end_at t side
sent_ends m t side Near = direction_ends t side Near (record t.from_near { sent = t.from_near.sent ++ m ∷ [] })
sent_ends m t side Far = direction_ends t side Far (record t.from_far { sent = t.from_far.sent ++ m ∷ [] })

number_ends : (k : ℕ) (t : StreamState) (side x : Side) → end_at (with_number k t x) side ≡ end_at t side
number_ends k t Near x = refl
number_ends k t Far x = refl

-- no stream has the end
abbrev NoEnd : StreamEnd → StreamState → Type 0
NoEnd e t = (side : Side) → end_at t side ≢ Some e

none_changed : (e by : StreamEnd) (f : StreamState → Side → StreamState) (ts : List StreamState) → ((t : StreamState) (side x : Side) → end_at (f t x) side ≡ end_at t side) → OfEachStream (NoEnd e) ts
    → OfEachStream (NoEnd e) (change_at_end ts by f)
none_changed e by f ts same each =
    each_changed (NoEnd e) (NoEnd e) ts by f (λ t none. at_end_has (NoEnd e) by f t (λ out. none) (λ x at side is. none side (sym (same t side x) ∙ is))) each

not_one : {A : Type 0} (n : ℕ) → n ≡ 0 → n ≡ 1 → A
not_one n a b = absurd (omega (arith, a, b))

nothing_for : (node stream : ℕ) (qs : List Queued) (ts : List StreamState) → AreReady node qs ts → OfEachStream (NoEnd (end_of node stream)) ts → queued_for stream qs ≡ []
nothing_for node stream [] ts h none = refl
nothing_for node stream (datagram link to m ∷ qs) ts h none = nothing_for node stream qs ts h none
nothing_for node stream (dial other to ∷ qs) ts h none =
    nothing_for node stream qs (change_at_end ts (end_of node other) (with_number 0)) (h.1 0) (none_changed (end_of node stream) (end_of node other) (with_number 0) ts (number_ends 0) none)
nothing_for node stream (send other m ∷ qs) ts h none = by_test (eqb_tells other stream) (nothing_for node stream qs (change_at_end ts (end_of node other) (with_sent m)) h.2) where
  by_test : (((other == stream) ≡ true) × (other ≡ stream)) ⊎ (((other == stream) ≡ false) × (other ≢ stream))
      → (OfEachStream (NoEnd (end_of node stream)) (change_at_end ts (end_of node other) (with_sent m)) → queued_for stream qs ≡ []) → queued_for stream (send other m ∷ qs) ≡ []
  by_test (inl t) rest =
      not_one (count_at_end ts (end_of node other)) (none_counted (end_of node other) ts (subst (λ n. OfEachStream (NoEnd (end_of node n)) ts) (sym t.1) none)) h.0
  by_test (inr t) rest = let differs = t.0 in rw differs (rest (none_changed (end_of node stream) (end_of node other) (with_sent m) ts (sent_ends m) none))

pub unqueued : StreamsAreReady → (s : Setting) (w : WorldState) → IsReached s w → (node : ℕ) (seat : Seat) → seat_at w node ≡ Some seat → (stream : ℕ)
    → OfEachStream (λ t. (side : Side) → end_at t side ≢ Some (end_of node stream)) w.streams → queued_for stream seat.core.queue ≡ []
unqueued ready s w r node seat here stream none = nothing_for node stream seat.core.queue w.streams (ready.ready s w r node seat here) none

-- ---- dials come first

-- a stream with the end was dialled
record WasDialled (ts : List StreamState) (e : StreamEnd) : Type 0 where
  place : ℕ
  talk : StreamState
  k : ℕ
  stands : slice_get ts place ≡ Some talk
  has : has_end e talk ≡ true
  number : talk.number ≡ Some k

-- each stream for which something is queued was dialled
abbrev WereDialled : ℕ → List Queued → List StreamState → Type 0
WereDialled node before ts = (stream : ℕ) → (queued_for stream before ≡ []) ⊎ WasDialled ts (end_of node stream)

-- a change that leaves the ends, and the numbers of those that have one
record KeepsDials (f : StreamState → Side → StreamState) : Type 0 where
  ends : (t : StreamState) (side x : Side) → end_at (f t x) side ≡ end_at t side
  numbers : (t : StreamState) (x : Side) (k : ℕ) → t.number ≡ Some k → (j : ℕ) × ((f t x).number ≡ Some j)

numbers_keep : (k : ℕ) → KeepsDials (with_number k)
numbers_keep k = record { ends = number_ends k; numbers = λ t x j is. (k, refl) }

sends_keep : (m : Message) → KeepsDials (with_sent m)
sends_keep m = record { ends = sent_ends m; numbers = number } where
  number : (t : StreamState) (x : Side) (k : ℕ) → t.number ≡ Some k → (j : ℕ) × ((with_sent m t x).number ≡ Some j)
  number t Near k is = (k, is)
  number t Far k is = (k, is)

has_side : (e : StreamEnd) (t : StreamState) → has_end e t ≡ true → (side : Side) × (end_at t side ≡ Some e)
has_side e t has = by_side (side_of_end e t) refl has where
  by_side : (o : Option Side) → side_of_end e t ≡ o → is_some o ≡ true → (side : Side) × (end_at t side ≡ Some e)
  by_side None is h = absurd (cc)
  by_side (Some side) is h = (side, end_found t e side is)

still_dialled : (f : StreamState → Side → StreamState) (ts : List StreamState) (by e : StreamEnd) → KeepsDials f → WasDialled ts e → WasDialled (change_at_end ts by f) e
still_dialled f ts by e keeps d = from (has_side e d.talk d.has) where
  from : (side : Side) × (end_at d.talk side ≡ Some e) → WasDialled (change_at_end ts by f) e
  from h = made
      (at_end_has (λ (t : StreamState). (end_at t h.0 ≡ Some e) × ((j : ℕ) × (t.number ≡ Some j))) by f d.talk (λ out. (h.1, (d.k, d.number)))
      (λ x at. (keeps.ends d.talk h.0 x ∙ h.1, keeps.numbers d.talk x d.k d.number))) where
        made : (end_at (at_end by f d.talk) h.0 ≡ Some e) × ((j : ℕ) × ((at_end by f d.talk).number ≡ Some j)) → WasDialled (change_at_end ts by f) e
        made m = record {
          place = d.place;
          talk = at_end by f d.talk;
          k = m.1.0;
          stands = place_changed ts by f d.place d.talk d.stands;
          has = has_it (at_end by f d.talk) e h.0 m.0;
          number = m.1.1;
        }

all_dialled : (node : ℕ) (before : List Queued) (ts : List StreamState) (f : StreamState → Side → StreamState) (by : StreamEnd) → KeepsDials f → WereDialled node before ts
    → WereDialled node before (change_at_end ts by f)
all_dialled node before ts f by keeps were stream = by_case (were stream) where
  by_case : (queued_for stream before ≡ []) ⊎ WasDialled ts (end_of node stream) → (queued_for stream before ≡ []) ⊎ WasDialled (change_at_end ts by f) (end_of node stream)
  by_case (inl none) = inl none
  by_case (inr d) = inr (still_dialled f ts by (end_of node stream) keeps d)

-- an output that is for no stream
no_more_for : (node : ℕ) (before : List Queued) (q : Queued) (ts : List StreamState) → ((stream : ℕ) → queued_for stream (q ∷ []) ≡ []) → WereDialled node before ts
    → WereDialled node (before ++ q ∷ []) ts
no_more_for node before q ts none were stream = by_case (were stream) where
  by_case : (queued_for stream before ≡ []) ⊎ WasDialled ts (end_of node stream) → (queued_for stream (before ++ q ∷ []) ≡ []) ⊎ WasDialled ts (end_of node stream)
  by_case (inl e) = inl (queued_append stream before (q ∷ []) ∙ (ap (λ ms. ms ++ queued_for stream (q ∷ [])) e ∙ none stream))
  by_case (inr d) = inr d

one_at_least : (n : ℕ) → n ≡ 1 → 1 ≤ n
one_at_least n e = omega (arith, e)

sent_dialled : (ts : List StreamState) (e : StreamEnd) → count_at_end ts e ≡ 1 → AreSent ts e → WasDialled ts e
sent_dialled ts e one sent = from (some_counted e ts (one_at_least (count_at_end ts e) one)) where
  from : Counted e ts → WasDialled ts e
  from c = by_number c.talk.number refl (every_at (λ t. has_end e t ≡ true → IsSent t.number) ts sent c.place c.talk c.stands c.has) where
    by_number : (o : Option ℕ) → c.talk.number ≡ o → IsSent o → WasDialled ts e
    by_number None is h = absurd h
    by_number (Some k) is h = record { place = c.place; talk = c.talk; k = k; stands = c.stands; has = c.has; number = is }

dial_fresh : (ts : List StreamState) (e : StreamEnd) (to : Locator) → IsDialOf ts e to → WasDialled ts e → ⊥
dial_fresh ts e to d was =
    none-some was.k (sym (every_at (WaitsFor e to) ts d.waits was.place was.talk was.stands was.has).0 ∙ was.number)

were_fresh : (node : ℕ) (qs before : List Queued) (ts : List StreamState) → AreReady node qs ts → WereDialled node before ts → DialsAreFresh before qs
were_fresh node [] before ts h were = tt
were_fresh node (datagram link to m ∷ qs) before ts h were =
    (tt, were_fresh node qs (before ++ datagram link to m ∷ []) ts h (no_more_for node before (datagram link to m) ts (λ stream. refl) were))
were_fresh node (dial stream to ∷ qs) before ts h were = (
  first (were stream),
  were_fresh node qs (before ++ dial stream to ∷ []) (change_at_end ts (end_of node stream) (with_number 0)) (h.1 0)
      (no_more_for node before (dial stream to) (change_at_end ts (end_of node stream) (with_number 0)) (λ other. refl)
      (all_dialled node before ts (with_number 0) (end_of node stream) (numbers_keep 0) were)),
) where
  first : (queued_for stream before ≡ []) ⊎ WasDialled ts (end_of node stream) → queued_for stream before ≡ []
  first (inl none) = none
  first (inr was) = absurd (dial_fresh ts (end_of node stream) to h.0 was)
were_fresh node (send stream m ∷ qs) before ts h were =
    (tt, were_fresh node qs (before ++ send stream m ∷ []) (change_at_end ts (end_of node stream) (with_sent m)) h.2 more) where
      more : WereDialled node (before ++ send stream m ∷ []) (change_at_end ts (end_of node stream) (with_sent m))
      more other = by_test (eqb_tells stream other) where
        by_test : (((stream == other) ≡ true) × (stream ≡ other)) ⊎ (((stream == other) ≡ false) × (stream ≢ other))
            → (queued_for other (before ++ send stream m ∷ []) ≡ []) ⊎ WasDialled (change_at_end ts (end_of node stream) (with_sent m)) (end_of node other)
        by_test (inl t) = inr
            (subst (λ n. WasDialled (change_at_end ts (end_of node stream) (with_sent m)) (end_of node n)) t.1
            (still_dialled (with_sent m) ts (end_of node stream) (end_of node stream) (sends_keep m) (sent_dialled ts (end_of node stream) h.0 h.1)))
        by_test (inr t) = by_case (all_dialled node before ts (with_sent m) (end_of node stream) (sends_keep m) were other) where
          by_case : (queued_for other before ≡ []) ⊎ WasDialled (change_at_end ts (end_of node stream) (with_sent m)) (end_of node other)
              → (queued_for other (before ++ send stream m ∷ []) ≡ []) ⊎ WasDialled (change_at_end ts (end_of node stream) (with_sent m)) (end_of node other)
          by_case (inl none) = inl (queued_append other before (send stream m ∷ []) ∙ (ap (λ ms. ms ++ queued_for other (send stream m ∷ [])) none ∙ queued_elsewhere other stream m t.1))
          by_case (inr d) = inr d

pub fresh : StreamsAreReady → (s : Setting) (w : WorldState) → IsReached s w → (node : ℕ) (seat : Seat) → seat_at w node ≡ Some seat → DialsAreFresh [] seat.core.queue
fresh ready s w r node seat here = were_fresh node seat.core.queue [] w.streams (ready.ready s w r node seat here) (λ stream. inl refl)
