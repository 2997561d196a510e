-- The agents of a node that serves: the agent of prefixes makes its calls as agent 1, and the others call as others and within their ranges.
use Rattle.std.proofs.Common.{◌≡◌, ◌≢◌, refl, sym, ◌∙◌, subst, arith, ℕ, zero, suc, ◌+◌, ◌-◌, ◌*◌, ◌≤◌, ◌^◌, ◌==◌, ◌&&◌, ◌++◌, min, Bool, true, false, cond, map, List, [], ◌∷◌, slice_get, Option, Some, None}
use Rattle.std.proofs.lemmas.Bool.{ne_eqb}
use Rattle.std.proofs.lemmas.Option.{none-some, same_Some}
use Rattle.std.specs.List.{AllByRecursion}
use Rattle.std.specs.Prelude.{nat_le}
use Rattle.grasp_agent.specs.Announcing.{BeaconState, ReaderState, after_beacon, after_keep, beacon_call, flooding_again, keeping, reader_call, reads_in, registered_beacon, registered_reader}
use Rattle.grasp_agent.specs.Replies.{after_reply, answer_in, asa_in, is_done}
use Rattle.grasp_agent.specs.States.{AgentState}
use Rattle.grasp_agent.specs.declared.beacon.Step.{Step}
use Rattle.grasp_agent.specs.declared.beacon.Step.TheVariants.{Registering, Declaring, Offering, Flooding, Repeating}
use Rattle.grasp_crew.specs.Herald.{HeraldState, herald_after, herald_nudge, herald_told, herald_with, is_moving, rested}
use Rattle.grasp_crew.specs.Listener.{ListenerState, listener_after}
use Rattle.grasp_crew.specs.Nudges.{Nudge, Wanted, again, still, wanted}
use Rattle.grasp_crew.specs.Servants.{after_call, call_of, nudge_of, woken}
use Rattle.grasp_crew.specs.Steward.{StewardState, may_want, nudge_at, nudge_of_place, steward_after, steward_nudge, steward_told}
use Rattle.grasp_crew.specs.Trying.{ripe_place}
use Rattle.grasp_crew.specs.declared.servant.Servant.{Servant}
use Rattle.grasp_crew.specs.declared.servant.Servant.TheVariants.{Herald, Listener, Steward}
use Rattle.grasp_laws_serving.proofs.Happenings.{Goes, IsBeside, all_append, all_first, all_last, goes_append, goes_beside, goes_none, goes_on}
use Rattle.grasp_laws_serving.proofs.Numbers.{GivesOthers}
use Rattle.grasp_laws_serving.specs.Lives.{Happening, all_called, called, deed_happens, told, want_told}
use Rattle.grasp_model_network.specs.Events.{AreLengths}
use Rattle.grasp_model_network.specs.Ranges.{IsCall}
use Rattle.grasp_service.specs.Deeds.{Deed, after_deed, calls, rests, told_at}
use Rattle.grasp_service.specs.Openings.{agent_entry, opened, opening_calls}
use Rattle.grasp_service.specs.Rounds.{woken_crew}
use Rattle.grasp_service_visits.specs.Each.{each_adds, each_after}
use Rattle.grasp_shared.specs.History.{Entry, History}
use Rattle.grasp_types.specs.declared.call.Call.TheVariants as call
use Rattle.grasp_types.specs.declared.flood.FloodRead.{FloodRead}
use Rattle.grasp_types.specs.declared.reply.Reply.{Reply}
use Rattle.grasp_types.specs.declared.traffic.Input.{Input}
use Rattle.grasp_types.specs.declared.traffic.Input.TheVariants as input

-- ---- what is fit for a network

-- a call isn't made as agent 1, and its parts are within their ranges; what else comes is for the links to say
abbrev pub IsFitInput : Input → Type 0
IsFitInput (input.Api asa c) = (asa ≢ 1) × IsCall c
IsFitInput _ = Unit {0}

-- a call that isn't that of the agent of prefixes is so, and a want asks for a prefix
abbrev pub IsFit : Happening → Type 0
IsFit (called e) = (e.caller == 1) ≡ false → IsFitInput e.input
IsFit (told w) = AreLengths w.length w.longest

-- its reply gives no agent the number 1
abbrev pub Gives : Happening → Type 0
Gives (called e) = GivesOthers e.reply
Gives (told w) = Unit {0}

-- this is fit, and happened to the agent of prefixes
pub record Part (a : AgentState) (hs : List Happening) (b : AgentState) : Type 0 where
  pub goes : Goes a hs b
  pub fit : AllByRecursion IsFit hs

pub part_none : (a : AgentState) → Part a [] a
part_none a = record { goes = goes_none a; fit = tt }

pub part_append : (xs : List Happening) (a b c : AgentState) (ys : List Happening) → Part a xs b → Part b ys c → Part a (xs ++ ys) c
part_append xs a b c ys p q = record { goes = goes_append xs a b c ys p.goes q.goes; fit = all_append IsFit xs ys p.fit q.fit }

-- a call beside the agent of prefixes that is fit
pub record IsOtherEntry (e : Entry) : Type 0 where
  pub beside : IsBeside e
  pub fit : IsFitInput e.input

pub others_beside : (es : History) → AllByRecursion IsOtherEntry es → AllByRecursion IsBeside es
others_beside [] all = tt
others_beside (e ∷ es) all = (all.0.beside, others_beside es all.1)

pub others_fit : (es : History) → AllByRecursion IsOtherEntry es → AllByRecursion IsFit (all_called es)
others_fit [] all = tt
others_fit (e ∷ es) all = ((λ f. all.0.fit), others_fit es all.1)

-- such calls leave the agent of prefixes
pub part_others : (es : History) (a : AgentState) → AllByRecursion IsOtherEntry es → Part a (all_called es) a
part_others es a all = record { goes = goes_beside es a (others_beside es all); fit = others_fit es all }

-- a caller above 1
pub beside : (caller : ℕ) → 2 ≤ caller → (caller == 1) ≡ false
beside caller most = ne_eqb caller 1 (λ e. omega (arith, most, e))

-- ---- beacons and readers

pub record IsOtherBeacon (b : BeaconState) : Type 0 where
  pub number : b.asa ≢ 1
  pub ranges : IsCall (call.Flood b.name b.value b.ttl b.loops)

-- an agent that isn't the one of prefixes, nor has its number, and whose calls are within their ranges
abbrev pub IsOther : Servant → Type 0
IsOther (Steward m) = ⊥
IsOther (Herald h) = IsOtherBeacon h.beacon
IsOther (Listener l) = l.reader.asa ≢ 1

beacon_calls : (b : BeaconState) → IsOtherBeacon b → IsCall (beacon_call b)
unfolding beacon_call
beacon_calls b h = by_step b.step where
  by_step : (s : Step) → IsCall (beacon_call (record b { step = s }))
  by_step Registering = tt
  by_step Declaring = (h.ranges.0, omega arith)
  by_step Offering = h.ranges.1
  by_step Flooding = h.ranges
  by_step Repeating = h.ranges.1

reader_calls : (r : ReaderState) → IsCall (reader_call r)
unfolding reader_call
reader_calls r = by_state r.registered where
  by_state : (b : Bool) → IsCall (cond b (call.GetFlood r.name) (reader_call (record r { registered = false })))
  by_state true = tt
  by_state false = tt

pub other_calls : (m : Servant) → IsOther m → IsFitInput (call_of m)
other_calls (Steward m) h = absurd h
other_calls (Herald b) h = (h.number, beacon_calls b.beacon h)
other_calls (Listener l) h = (h, reader_calls l.reader)

numbered : (b : BeaconState) (o : Option ℕ) → ((number : ℕ) → o ≡ Some number → number ≢ 1) → IsOtherBeacon b → IsOtherBeacon (registered_beacon b o)
numbered b None given h = h
numbered b (Some number) given h = record { number = given number refl; ranges = h.ranges }

done_or : (b c : BeaconState) (t : Bool) → IsOtherBeacon b → IsOtherBeacon c → IsOtherBeacon (cond t c b)
done_or b c true h k = k
done_or b c false h k = h

beacon_after : (b : BeaconState) (r : Reply) → GivesOthers r → IsOtherBeacon b → IsOtherBeacon (after_beacon b r)
unfolding after_beacon
beacon_after b r given h = by_step b.step where
  with_step : (s : Step) → IsOtherBeacon (record b { step = s })
  with_step s = record { number = h.number; ranges = h.ranges }

  by_step : (s : Step) → IsOtherBeacon (after_beacon (record b { step = s }) r)
  by_step Registering = numbered (record b { step = Registering }) (asa_in (answer_in r)) given (with_step Registering)
  by_step Declaring = done_or (record b { step = Declaring }) (record b { step = Offering }) (is_done (answer_in r)) (with_step Declaring) (with_step Offering)
  by_step Offering = done_or (record b { step = Offering }) (record b { step = Flooding }) (is_done (answer_in r)) (with_step Offering) (with_step Flooding)
  by_step Flooding = done_or (record b { step = Flooding }) (record b { step = Repeating }) (is_done (answer_in r)) (with_step Flooding) (with_step Repeating)
  by_step Repeating = with_step Repeating

flooding_other : (b : BeaconState) → IsOtherBeacon b → IsOtherBeacon (flooding_again b)
unfolding flooding_again
flooding_other b h = by_step b.step where
  with_step : (s : Step) → IsOtherBeacon (record b { step = s })
  with_step s = record { number = h.number; ranges = h.ranges }

  by_step : (s : Step) → IsOtherBeacon (flooding_again (record b { step = s }))
  by_step Registering = with_step Registering
  by_step Declaring = with_step Declaring
  by_step Offering = with_step Offering
  by_step Flooding = with_step Flooding
  by_step Repeating = with_step Flooding

reader_number : (s : ReaderState) (o : Option ℕ) → ((number : ℕ) → o ≡ Some number → number ≢ 1) → s.asa ≢ 1 → (registered_reader s o).asa ≢ 1
reader_number s None given h = h
reader_number s (Some number) given h = given number refl

reader_keeps : (s : ReaderState) (o : Option (List FloodRead)) → s.asa ≢ 1 → (keeping s o).asa ≢ 1
reader_keeps s None h = h
reader_keeps s (Some reads) h = h

reader_after : (s : ReaderState) (r : Reply) → GivesOthers r → s.asa ≢ 1 → (after_keep s r).asa ≢ 1
unfolding after_keep
reader_after s r given h = by_state s.registered where
  by_state : (b : Bool) → (after_keep (record s { registered = b }) r).asa ≢ 1
  by_state true = reader_keeps (record s { registered = true }) (reads_in (answer_in r)) h
  by_state false = reader_number (record s { registered = false }) (asa_in (answer_in r)) given h

-- a beacon's pauses are no part of what it announces
either_beacon : (h x y : HeraldState) (b : Bool) → x.beacon ≡ h.beacon → y.beacon ≡ h.beacon → (cond b x y).beacon ≡ h.beacon
either_beacon h x y true e f = e
either_beacon h x y false e f = f

rested_beacon : (now : ℕ) (h : HeraldState) → (rested now h).beacon ≡ h.beacon
rested_beacon now h =
    either_beacon h (record h { left = 0; next = min (now + h.pause) (2 ^ 64 - 1); pause = min (2 * h.pause) h.every }) (record h { left = h.left - 1 }) (h.left == 1) refl refl

with_beacon : (now : ℕ) (h : HeraldState) (moves : Bool) (b : BeaconState) → (herald_with now h moves b).beacon ≡ b
with_beacon now h true b = rested_beacon now (record h { beacon = b; awake = true })
with_beacon now h false b = refl

after_beacon_is : (now : ℕ) (h : HeraldState) (r : Reply) → (herald_after now h r).beacon ≡ after_beacon h.beacon r
unfolding herald_after
after_beacon_is now h r = with_beacon now h (is_moving r) (after_beacon h.beacon r)

after_reader_is : (l : ListenerState) (r : Reply) → (listener_after l r).reader ≡ after_keep l.reader r
unfolding listener_after
after_reader_is l r = refl

pub other_after : (now : ℕ) (m : Servant) (r : Reply) → GivesOthers r → IsOther m → IsOther (after_call now m r)
other_after now (Steward m) r given h = absurd h
other_after now (Herald b) r given h = subst IsOtherBeacon (sym (after_beacon_is now b r)) (beacon_after b.beacon r given h)
other_after now (Listener l) r given h = subst (λ (s : ReaderState). s.asa ≢ 1) (sym (after_reader_is l r)) (reader_after l.reader r given h)

herald_told_other : (h : HeraldState) (n : Nudge) → IsOtherBeacon h.beacon → IsOtherBeacon (herald_told h n).beacon
herald_told_other h still o = o
herald_told_other h (wanted place w) o = o
herald_told_other h again o = flooding_other h.beacon o

pub other_told : (now : ℕ) (m : Servant) → IsOther m → IsOther (told_at now m)
other_told now (Steward m) h = absurd h
other_told now (Herald b) h = herald_told_other b (herald_nudge now b) h
other_told now (Listener l) h = h

-- they are told no want
again_or_still : (b : Bool) → want_told (cond b again still) ≡ []
again_or_still true = refl
again_or_still false = refl

other_wants : (now : ℕ) (m : Servant) → IsOther m → want_told (nudge_of now m) ≡ []
other_wants now (Steward m) h = absurd h
other_wants now (Herald b) h = again_or_still (b.left == 0 && nat_le b.next now)
other_wants now (Listener l) h = refl

-- ---- their opening calls

pub opening_others : (caller : ℕ) (m : Servant) (rs : List Reply) → 2 ≤ caller → IsOther m → AllByRecursion (λ (e : Entry). GivesOthers e.reply) (opening_calls caller m rs)
    → AllByRecursion IsOtherEntry (opening_calls caller m rs) × IsOther (opened m rs)
opening_others caller m [] most h give = (tt, h)
opening_others caller m (r ∷ rs) most h give =
    let f = opening_others caller (after_call 0 m r) rs most (other_after 0 m r give.0 h) give.1 in
    ((record { beside = beside caller most; fit = other_calls m h }, f.0), f.1)

-- ---- what they do in a round

pub deed_others : (now caller : ℕ) (m : Servant) (d : Deed) (a : AgentState) → 2 ≤ caller → IsOther m → AllByRecursion Gives (deed_happens now caller m d)
    → Part a (deed_happens now caller m d) a × IsOther (after_deed now m d)
deed_others now caller m rests a most h give =
    (subst (λ (hs : List Happening). Part a (hs ++ []) a) (sym (other_wants now m h)) (part_none a), other_told now m h)
deed_others now caller m (calls r) a most h give =
    let one : List Happening = called (agent_entry caller (told_at now m) r) ∷ [] in
    let given : AllByRecursion Gives one = subst (λ (hs : List Happening). AllByRecursion Gives (hs ++ one)) (other_wants now m h) give in (
      subst (λ (hs : List Happening). Part a (hs ++ one) a) (sym (other_wants now m h))
          (part_others (agent_entry caller (told_at now m) r ∷ []) a (record { beside = beside caller most; fit = other_calls (told_at now m) (other_told now m h) }, tt)),
      other_after now (told_at now m) r given.0 (other_told now m h),
    )

pub deeds_others : (crew : List Servant) (deeds : List Deed) (now caller : ℕ) (a : AgentState) → 2 ≤ caller → AllByRecursion IsOther crew
    → AllByRecursion Gives (each_adds (deed_happens now) caller crew deeds)
    → Part a (each_adds (deed_happens now) caller crew deeds) a × AllByRecursion IsOther (each_after (after_deed now) crew deeds)
deeds_others [] deeds now caller a most h give = (part_none a, tt)
deeds_others (m ∷ crew) [] now caller a most h give = (part_none a, h)
deeds_others (m ∷ crew) (d ∷ deeds) now caller a most h give =
    let f = deed_others now caller m d a most h.0 (all_first Gives (deed_happens now caller m d) (each_adds (deed_happens now) (caller + 1) crew deeds) give) in
    let g =
    deeds_others crew deeds now (caller + 1) a (omega (arith, most)) h.1
    (all_last Gives (deed_happens now caller m d) (each_adds (deed_happens now) (caller + 1) crew deeds) give) in
    (part_append (deed_happens now caller m d) a a a (each_adds (deed_happens now) (caller + 1) crew deeds) f.0 g.0, (f.1, g.1))

-- ---- the agent of prefixes

-- each of its wants asks for a prefix
abbrev pub AreWants : List Wanted → Type 0
AreWants ws = AllByRecursion (λ (w : Wanted). AreLengths w.length w.longest) ws

abbrev IsWant : Nudge → Type 0
IsWant still = Unit {0}
IsWant (wanted place w) = AreLengths w.length w.longest
IsWant again = Unit {0}

pub at_place : {A : Type 0} (P : A → Type 0) (xs : List A) (i : ℕ) (x : A) → AllByRecursion P xs → slice_get xs i ≡ Some x → P x
at_place P [] i x all e = absurd (none-some x e)
at_place P (y ∷ ys) zero x all e = subst P (same_Some y x e) all.0
at_place P (y ∷ ys) (suc i) x all e = at_place P ys i x all.1 e

steward_wants : (now : ℕ) (m : StewardState) → AreWants m.wants → IsWant (steward_nudge now m)
steward_wants now m h = by_room (may_want m.agent) where
  by_want : (place : ℕ) (o : Option Wanted) → slice_get m.wants place ≡ o → IsWant (nudge_at place o)
  by_want place None e = tt
  by_want place (Some w) e = at_place (λ (x : Wanted). AreLengths x.length x.longest) m.wants place w h e

  by_place : (o : Option ℕ) → IsWant (nudge_of_place m o)
  by_place None = tt
  by_place (Some place) = by_want place (slice_get m.wants place) refl

  by_room : (b : Bool) → IsWant (cond b (nudge_of_place m (ripe_place now m.tries)) still)
  by_room true = by_place (ripe_place now m.tries)
  by_room false = tt

told_part : (m : StewardState) (n : Nudge) → IsWant n → Part m.agent (want_told n) (steward_told m n).agent
told_part m still h = part_none m.agent
told_part m (wanted place w) h = record { goes = record { own = (tt, tt); ends = refl }; fit = (h, tt) }
told_part m again h = part_none m.agent

told_wants : (m : StewardState) (n : Nudge) → (steward_told m n).wants ≡ m.wants
told_wants m still = refl
told_wants m (wanted place w) = refl
told_wants m again = refl

after_agent : (now : ℕ) (m : StewardState) (r : Reply) → (steward_after now m r).agent ≡ after_reply m.agent r
unfolding steward_after
after_agent now m r = refl

after_wants : (now : ℕ) (m : StewardState) (r : Reply) → (steward_after now m r).wants ≡ m.wants
unfolding steward_after
after_wants now m r = refl

-- the agent of prefixes is this one, and then come others
abbrev pub IsCrew : AgentState → List Servant → Type 0
IsCrew a [] = ⊥
IsCrew a (Steward m ∷ crew) = (m.agent ≡ a) × AreWants m.wants × AllByRecursion IsOther crew
IsCrew a (Herald h ∷ crew) = ⊥
IsCrew a (Listener l ∷ crew) = ⊥

-- its own call
own_part : (m : StewardState) (now : ℕ) (r : Reply) → Part m.agent (called (agent_entry 1 (Steward m) r) ∷ []) (steward_after now m r).agent
own_part m now r = record {
  goes = goes_on m.agent (called (agent_entry 1 (Steward m) r)) [] (steward_after now m r).agent (λ f. refl) (record { own = tt; ends = sym (after_agent now m r) });
  fit = ((λ f. absurd (true_false f)), tt);
} where
  true_false : true ≡ false → ⊥
  true_false e = cc

-- the agent of prefixes after a deed
record OwnDeed (now : ℕ) (m : StewardState) (d : Deed) : Type 0 where
  steward : StewardState
  is : after_deed now (Steward m) d ≡ Steward steward
  part : Part m.agent (deed_happens now 1 (Steward m) d) steward.agent
  wants : AreWants steward.wants

own_deed : (now : ℕ) (m : StewardState) (d : Deed) → AreWants m.wants → OwnDeed now m d
own_deed now m rests h =
    let n : Nudge = steward_nudge now m in
    let t : StewardState = steward_told m n in
    record {
      steward = t;
      is = refl;
      part = part_append (want_told n) m.agent t.agent t.agent [] (told_part m n (steward_wants now m h)) (part_none t.agent);
      wants = subst AreWants (sym (told_wants m n)) h;
    }
own_deed now m (calls r) h =
    let n : Nudge = steward_nudge now m in
    let t : StewardState = steward_told m n in
    record {
      steward = steward_after now t r;
      is = refl;
      part =
          part_append (want_told n) m.agent t.agent (steward_after now t r).agent (called (agent_entry 1 (Steward t) r) ∷ []) (told_part m n (steward_wants now m h))
          (own_part t now r);
      wants = subst AreWants (sym (after_wants now t r ∙ told_wants m n)) h;
    }

-- ---- all agents

-- what the agents do in a round, and how they are then
pub record Done (a : AgentState) (hs : List Happening) (crew : List Servant) : Type 0 where
  pub agent : AgentState
  pub part : Part a hs agent
  pub crew_is : IsCrew agent crew

own_first : (m : StewardState) (crew : List Servant) (d : Deed) (deeds : List Deed) (now : ℕ) (a : AgentState) → IsCrew a (Steward m ∷ crew) → OwnDeed now m d
    → AllByRecursion Gives (each_adds (deed_happens now) 1 (Steward m ∷ crew) (d ∷ deeds))
    → Done a (each_adds (deed_happens now) 1 (Steward m ∷ crew) (d ∷ deeds)) (each_after (after_deed now) (Steward m ∷ crew) (d ∷ deeds))
own_first m crew d deeds now a h o give =
    let first : List Happening = deed_happens now 1 (Steward m) d in
    let rest : List Happening = each_adds (deed_happens now) 2 crew deeds in
    let g = deeds_others crew deeds now 2 o.steward.agent (omega arith) h.2 (all_last Gives first rest give) in
    record {
      agent = o.steward.agent;
      part = part_append first a o.steward.agent o.steward.agent rest (subst (λ (x : AgentState). Part x first o.steward.agent) h.0 o.part) g.0;
      crew_is = subst (λ (s : Servant). IsCrew o.steward.agent (s ∷ each_after (after_deed now) crew deeds)) (sym o.is) (refl, o.wants, g.1);
    }

pub deeds_done : (crew : List Servant) (deeds : List Deed) (now : ℕ) (a : AgentState) → IsCrew a crew → AllByRecursion Gives (each_adds (deed_happens now) 1 crew deeds)
    → Done a (each_adds (deed_happens now) 1 crew deeds) (each_after (after_deed now) crew deeds)
deeds_done [] deeds now a h give = absurd h
deeds_done (Herald b ∷ crew) deeds now a h give = absurd h
deeds_done (Listener l ∷ crew) deeds now a h give = absurd h
deeds_done (Steward m ∷ crew) [] now a h give = record { agent = a; part = part_none a; crew_is = h }
deeds_done (Steward m ∷ crew) (d ∷ deeds) now a h give = own_first m crew d deeds now a h (own_deed now m d h.1) give

-- ---- woken

woken_other : (m : Servant) → IsOther m → IsOther (woken m)
woken_other (Steward m) h = absurd h
woken_other (Herald b) h = h
woken_other (Listener l) h = h

woken_others : (crew : List Servant) → AllByRecursion IsOther crew → AllByRecursion IsOther (map woken crew)
woken_others [] h = tt
woken_others (m ∷ crew) h = (woken_other m h.0, woken_others crew h.1)

pub woken_is : (a : AgentState) (b : Bool) (crew : List Servant) → IsCrew a crew → IsCrew a (woken_crew b crew)
woken_is a false crew h = h
woken_is a true [] h = absurd h
woken_is a true (Steward m ∷ crew) h = (h.0, h.1, woken_others crew h.2)
woken_is a true (Herald b ∷ crew) h = absurd h
woken_is a true (Listener l ∷ crew) h = absurd h
