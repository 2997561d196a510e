-- What the code remembers of acceptances stands for the streams still, whatever is said on them.
use Rattle.std.proofs.Common.{◌≡◌, ◌≢◌, refl, sym, ap, ◌∙◌, subst, arith, ℕ, ◌%◌, ◌≤◌, ◌<◌, ◌==◌, ◌&&◌, ◌||◌, Bool, true, false, cond, inl, inr, ◌⊎◌, List, [], ◌∷◌, ◌++◌, length, map, slice_get, Contains, Option, None, Some}
use Rattle.std.proofs.lemmas.Bool.{true≢false, and_parts, eqb-true, or_cases}
use Rattle.std.proofs.lemmas.List.Folds.{list_any-append}
use Rattle.std.proofs.lemmas.Option.{same_Some, slice_get_within}
use Rattle.grasp_model_node.specs.Queue.{Queued, datagram, dial, send}
use Rattle.grasp_model_network.specs.Accepting.{has_accepted}
use Rattle.grasp_model_network.specs.Runs.{IsReached}
use Rattle.grasp_model_network.specs.Sending.{streams_made}
use Rattle.grasp_model_network.specs.Setting.{Setting}
use Rattle.grasp_model_network.specs.Streams.{StreamEnd, StreamState, end_at, is_same_end, is_at_end}
use Rattle.grasp_model_network.specs.Visits.{Visit}
use Rattle.grasp_model_network.specs.World.{WorldState, end_of, seat_at}
use Rattle.grasp_session.specs.Conversation.{Said, says}
use Rattle.grasp_session.specs.Messages.{Side, Near, Far, is_acceptance}
use Rattle.grasp_session.specs.Runs.{WasMade}
use Rattle.grasp_session.specs.Sessions.{SessionState, Sessions}
use Rattle.grasp_laws_delivery.specs.Ready.{StreamsAreReady, HasGoodEnds, HasGoodFar, HasGoodNumber}
use Rattle.grasp_laws_negotiation.proofs.Events.{PreOld, Premade}
use Rattle.grasp_laws_negotiation.proofs.Harmless.{Harmless}
use Rattle.grasp_laws_negotiation.proofs.Steps.{every_at}
use Rattle.grasp_laws_negotiation.proofs.StreamsMade.{MadeOld, MadeNew, made_from}
use Rattle.grasp_laws_negotiation.proofs.TalkRuns.{joined}
use Rattle.grasp_laws_negotiation.proofs.Voices.{voices, voiced}
use Rattle.grasp_laws_negotiation.specs.Streams.{HasItsStream, SessionsHaveStreams}
use Rattle.grasp_laws_node_stories.specs.Acceptances.{accepted_on}
use Rattle.grasp_laws_prefixes.proofs.Listing.{first_in, more_in}
use Rattle.grasp_laws_prefixes.proofs.Places.{same_place}
use Rattle.grasp_laws_prefixes.proofs.Standing.{AllStay, Stays}
use Rattle.grasp_simulator.specs.Marking.{WasDialled}
use Rattle.grasp_simulator.specs.Remembering.{AcceptedStand, end_in, is_among}
use Rattle.grasp_simulator.specs.declared.stream.LifeEnd.{LifeEnd}

-- ---- tests

either_way : (a b : Bool) → (a || b) ≡ (b || a)
either_way true true = refl
either_way true false = refl
either_way false true = refl
either_way false false = refl

or_true : (a : Bool) → (a || true) ≡ true
or_true true = refl
or_true false = refl

or_false : (a : Bool) → (a || false) ≡ a
or_false true = refl
or_false false = refl

is_false : (b : Bool) → (b ≡ true → ⊥) → b ≡ false
is_false true refuted = absurd (refuted refl)
is_false false refuted = refl

-- ---- what outputs of a life accept

-- the ends at which these streams of a life are
abbrev pub ends_in : ℕ → List ℕ → List LifeEnd
ends_in node streams = map (end_in node) streams

pub among_both : (e : StreamEnd) (xs ys : List LifeEnd) → is_among e (xs ++ ys) ≡ (is_among e xs || is_among e ys)
among_both e xs ys = list_any-append (λ (x : LifeEnd). x.life == e.node && x.number == e.number) xs ys

-- what outputs of a life say on a stream are the near side's acceptances exactly where its near end is one of those on which they accept
voices_accept : (node : ℕ) (near : StreamEnd) (far : Option StreamEnd) (qs : List Queued) (c : List Said)
    → has_accepted Near (joined (voices node near far qs) c) ≡ (is_among near (ends_in node (accepted_on qs)) || has_accepted Near c)
voices_accept node near far [] c = refl
voices_accept node near far (datagram link to m ∷ qs) c = voices_accept node near far qs c
voices_accept node near far (dial stream to ∷ qs) c = voices_accept node near far qs c
voices_accept node near far (send stream m ∷ qs) c = by_test (λ k. voices_accept node near far qs k) (is_same_end (end_of node stream) near) (is_at_end (end_of node stream) far) (is_acceptance m) refl refl where
  by_test : ((k : List Said) → has_accepted Near (joined (voices node near far qs) k) ≡ (is_among near (ends_in node (accepted_on qs)) || has_accepted Near k))
      → (own theirs accepts : Bool) → is_same_end (end_of node stream) near ≡ own → is_acceptance m ≡ accepts
      → has_accepted Near (joined (voiced (cond own (Some Near) (cond theirs (Some Far) None)) m (voices node near far qs)) c)
      ≡ (is_among near (ends_in node (cond accepts (stream ∷ accepted_on qs) (accepted_on qs))) || has_accepted Near c)
  by_test rest true theirs true same accepts =
      rest (says Near m ∷ c)
      ∙ (ap (λ b. is_among near (ends_in node (accepted_on qs)) || (b || has_accepted Near c)) accepts
      ∙ (or_true (is_among near (ends_in node (accepted_on qs))) ∙ ap (λ b. (b || is_among near (ends_in node (accepted_on qs))) || has_accepted Near c) (sym same)))
  by_test rest true theirs false same accepts = rest (says Near m ∷ c) ∙ ap (λ b. is_among near (ends_in node (accepted_on qs)) || (b || has_accepted Near c)) accepts
  by_test rest false true true same accepts = rest (says Far m ∷ c) ∙ ap (λ b. (b || is_among near (ends_in node (accepted_on qs))) || has_accepted Near c) (sym same)
  by_test rest false true false same accepts = rest (says Far m ∷ c)
  by_test rest false false true same accepts = rest c ∙ ap (λ b. (b || is_among near (ends_in node (accepted_on qs))) || has_accepted Near c) (sym same)
  by_test rest false false false same accepts = rest c

-- ---- an end of a life among those of some streams

pub record IsOneOf (node : ℕ) (streams : List ℕ) (e : StreamEnd) : Type 0 where
  pub stream : ℕ
  pub listed : Contains streams stream
  pub is : e ≡ end_of node stream

one_of : (node : ℕ) (streams : List ℕ) (e : StreamEnd) → is_among e (ends_in node streams) ≡ true → IsOneOf node streams e
one_of node [] e is = absurd (true≢false (sym is))
one_of node (n ∷ ns) e is = by_first (or_cases (node == e.node && n == e.number) (is_among e (ends_in node ns)) is) (one_of node ns e) where
  by_first : ((node == e.node && n == e.number) ≡ true) ⊎ (is_among e (ends_in node ns) ≡ true) → (is_among e (ends_in node ns) ≡ true → IsOneOf node ns e) → IsOneOf node (n ∷ ns) e
  by_first (inl same) rest =
      let a = and_parts (node == e.node) (n == e.number) same in
      record { stream = n; listed = first_in n ns; is = λ i. record { node = sym (eqb-true node e.node a.0) i; number = sym (eqb-true n e.number a.1) i } }
  by_first (inr more) rest = let o = rest more in record { stream = o.stream; listed = more_in n ns o.stream o.listed; is = o.is }

accepted_both : (xs ys : List Queued) (e : StreamEnd) (node : ℕ) → is_among e (ends_in node (accepted_on ys)) ≡ true → is_among e (ends_in node (accepted_on (xs ++ ys))) ≡ true
accepted_both [] ys e node is = is
accepted_both (datagram link to m ∷ xs) ys e node is = accepted_both xs ys e node is
accepted_both (dial stream to ∷ xs) ys e node is = accepted_both xs ys e node is
accepted_both (send stream m ∷ xs) ys e node is = by_test (is_acceptance m) (accepted_both xs ys e node is) where
  by_test : (b : Bool) → is_among e (ends_in node (accepted_on (xs ++ ys))) ≡ true → is_among e (ends_in node (cond b (stream ∷ accepted_on (xs ++ ys)) (accepted_on (xs ++ ys)))) ≡ true
  by_test true rest = ap (λ b. (node == e.node && stream == e.number) || b) rest ∙ or_true (node == e.node && stream == e.number)
  by_test false rest = rest

-- ---- where nothing is said

pub harmless_accepted : (ends : List LifeEnd) (ts us : List StreamState) → Harmless ts us → AcceptedStand ends ts → AcceptedStand ends us
harmless_accepted ends ts us h k = record {
  near = λ place u is.
      let m = h.back place u is in
      ap (λ c. has_accepted Near c) m.like.said ∙ (k.near place m.before m.stands ∙ ap (λ e. is_among e ends) (sym m.like.near));
  known = λ e even is.
      let d = k.known e even is in
      let m = h.forth d.place d.talk d.stands in
      record { place = d.place; talk = m.after; stands = m.stands; near = m.like.near ∙ d.near };
}

-- ---- numbers of dials

abbrev IsAtLeastOne : Option ℕ → Type 0
IsAtLeastOne None = Unit {0}
IsAtLeastOne (Some n) = 1 ≤ n

number_least : (dials : ℕ) (number : Option ℕ) → HasGoodNumber dials number → IsAtLeastOne number
number_least dials None good = tt
number_least dials (Some n) good = good.0

odd_even : (n : ℕ) → n % 2 ≡ 1 → n % 2 ≡ 0 → ⊥
odd_even n odd even = omega arith

-- ---- a step

-- each of these streams of the life is that of a session that was made there
abbrev pub AreOfSessions : Sessions → List ℕ → Type 0
AreOfSessions z streams = (stream : ℕ) → Contains streams stream → (x : SessionState) × (WasMade z x × (x.stream ≡ stream))

module _ (ready : StreamsAreReady) (sessions : SessionsHaveStreams) (s : Setting) (w y : WorldState) (r : IsReached s w) (q : IsReached s y) (v : Visit) (here : seat_at w v.node ≡ Some v.seat) (us : List StreamState)
    (qs : List Queued) (made : y.streams ≡ streams_made v.node us qs) (pre : Premade w.streams us v.node v.input) (stay : AllStay w.streams y.streams) (of : AreOfSessions v.seat.core.sessions (accepted_on qs))
    (ends : List LifeEnd) (k : AcceptedStand ends w.streams) where
  -- the ends at which the step accepts
  abbrev now : List LifeEnd
  now = ends_in v.node (accepted_on qs)

  -- where it accepts, there was a stream before
  there : (e : StreamEnd) → is_among e now ≡ true → (x : SessionState) × (HasItsStream w v.node x × (e ≡ end_of v.node x.stream))
  there e is =
      let o : IsOneOf v.node (accepted_on qs) e = one_of v.node (accepted_on qs) e is in
      let x = of o.stream o.listed in
      (x.0, (sessions.each s w r v.node v.seat here x.0 x.1.0, o.is ∙ ap (end_of v.node) (sym x.1.1)))

  below_all : (place : ℕ) (t : StreamState) → slice_get w.streams place ≡ Some t → place < length us
  below_all place t stands = let p = pre.forth place t stands in slice_get_within us place p.after p.stands

  -- a stream that is new has no end that one had
  none_before : (place : ℕ) (u : StreamState) → slice_get y.streams place ≡ Some u → length us ≤ place → (j : ℕ) (t : StreamState) (side : Side) → slice_get w.streams j ≡ Some t → end_at t side ≡ Some u.near → ⊥
  none_before place u is new j t side stands end =
      let x : Stays y.streams j t = stay j t stands in
      let same : j ≡ place = same_place ready s y q u.near j place x.after u side Near x.stands (x.ends side u.near end) is refl in
      let low : j < length us = below_all j t stands in
      omega arith

  new_silent : (place : ℕ) (u : StreamState) → slice_get y.streams place ≡ Some u → length us ≤ place → is_among u.near now ≡ false
  new_silent place u is new = is_false (is_among u.near now) (λ accepts.
      let x = there u.near accepts in
      none_before place u is new x.1.0.place x.1.0.talk x.1.0.side x.1.0.stands (x.1.0.ends ∙ ap (λ e. Some e) (sym x.1.1)))

  even_end : (place : ℕ) (u : StreamState) → slice_get y.streams place ≡ Some u → u.near.number % 2 ≡ 0
  even_end place u is = (every_at (λ (t : StreamState). HasGoodEnds s (length y.seats) y.dials t.near t.number t.far) y.streams place u (ready.ends s y q) is).even

  new_unknown : (place : ℕ) (u : StreamState) → slice_get y.streams place ≡ Some u → length us ≤ place → is_among u.near ends ≡ false
  new_unknown place u is new = is_false (is_among u.near ends) (λ known.
      let d : WasDialled w.streams u.near = k.known u.near (even_end place u is) known in
      none_before place u is new d.place d.talk Near d.stands (ap (λ e. Some e) d.near))

  near_now : (place : ℕ) (u : StreamState) → slice_get y.streams place ≡ Some u → has_accepted Near u.said ≡ is_among u.near (ends ++ now)
  near_now place u is = by_made (made_from v.node qs us place u (subst (λ (ts : List StreamState). slice_get ts place ≡ Some u) made is)) where
    by_old : (o : MadeOld v.node qs us place u) → PreOld w.streams v.node v.input place o.before → has_accepted Near u.said ≡ is_among u.near (ends ++ now)
    by_old o p =
        let near_is : u.near ≡ o.before.near = ap (λ (t : StreamState). t.near) o.made in
        ap (λ (t : StreamState). has_accepted Near t.said) o.made
        ∙ (voices_accept v.node o.before.near o.before.far qs o.before.said
        ∙ (ap (λ b. is_among o.before.near now || b) (ap (λ c. has_accepted Near c) p.said ∙ (k.near place p.before p.stands ∙ ap (λ e. is_among e ends) (sym p.near)))
        ∙ (either_way (is_among o.before.near now) (is_among o.before.near ends) ∙ (sym (among_both o.before.near ends now) ∙ ap (λ e. is_among e (ends ++ now)) (sym near_is)))))

    by_new : (n : MadeNew v.node qs (length us) place u) → has_accepted Near u.said ≡ is_among u.near (ends ++ now)
    by_new n =
        let near_is : u.near ≡ end_of v.node n.stream = ap (λ (t : StreamState). t.near) n.made in
        let silent : is_among u.near now ≡ false = new_silent place u is n.place_is in
        let unsaid : is_among (end_of v.node n.stream) (ends_in v.node (accepted_on n.behind)) ≡ false
        = is_false (is_among (end_of v.node n.stream) (ends_in v.node (accepted_on n.behind))) (λ accepts.
        true≢false
        (sym (ap (λ (e : StreamEnd). is_among e now) near_is
        ∙ (ap (λ (l : List Queued). is_among (end_of v.node n.stream) (ends_in v.node (accepted_on l))) n.parts
        ∙ accepted_both n.before (dial n.stream n.to ∷ n.behind) (end_of v.node n.stream) v.node accepts))
        ∙ silent)) in
        ap (λ (t : StreamState). has_accepted Near t.said) n.made
        ∙ (voices_accept v.node (end_of v.node n.stream) None n.behind []
        ∙ (ap (λ b. b || false) unsaid
        ∙ sym (among_both u.near ends now ∙ (ap (λ b. b || is_among u.near now) (new_unknown place u is n.place_is) ∙ silent))))

    by_made : MadeOld v.node qs us place u ⊎ MadeNew v.node qs (length us) place u → has_accepted Near u.said ≡ is_among u.near (ends ++ now)
    by_made (inl o) = by_old o (pre.back place o.before o.stands)
    by_made (inr n) = by_new n

  -- ---- from which ends streams were dialled

  still_dialled : (e : StreamEnd) → WasDialled w.streams e → WasDialled y.streams e
  still_dialled e d =
      let x : Stays y.streams d.place d.talk = stay d.place d.talk d.stands in
      record { place = d.place; talk = x.after; stands = x.stands; near = same_Some x.after.near e (x.ends Near e (ap (λ z. Some z) d.near)) }

  far_odd : (number : Option ℕ) (e : StreamEnd) → HasGoodFar s (length w.seats) number (Some e) → IsAtLeastOne number → e.number % 2 ≡ 1
  far_odd None e good numbered = absurd good
  far_odd (Some n) e good numbered = ap (λ m. m % 2) good.1 ∙ r.good.arrivals_odd e.node n numbered

  by_side : (e : StreamEnd) → e.number % 2 ≡ 0 → (place : ℕ) (t : StreamState) (side : Side) → slice_get w.streams place ≡ Some t → end_at t side ≡ Some e → WasDialled w.streams e
  by_side e even place t Near stands end = record { place = place; talk = t; stands = stands; near = same_Some t.near e end }
  by_side e even place t Far stands end =
      let good : HasGoodEnds s (length w.seats) w.dials t.near t.number t.far
      = every_at (λ (u : StreamState). HasGoodEnds s (length w.seats) w.dials u.near u.number u.far) w.streams place t (ready.ends s w r) stands in
      absurd (odd_even e.number (far_odd t.number e (subst (λ o. HasGoodFar s (length w.seats) t.number o) end good.opened) (number_least w.dials t.number good.dialled)) even)

  known_now : (e : StreamEnd) → e.number % 2 ≡ 0 → is_among e (ends ++ now) ≡ true → WasDialled y.streams e
  known_now e even is = still_dialled e (by_case (or_cases (is_among e ends) (is_among e now) (sym (among_both e ends now) ∙ is))) where
    by_case : (is_among e ends ≡ true) ⊎ (is_among e now ≡ true) → WasDialled w.streams e
    by_case (inl old) = k.known e even old
    by_case (inr new) = let x = there e new in by_side e even x.1.0.place x.1.0.talk x.1.0.side x.1.0.stands (x.1.0.ends ∙ ap (λ z. Some z) (sym x.1.1))

  pub step_accepted : AcceptedStand (ends ++ now) y.streams
  step_accepted = record { near = near_now; known = known_now }
