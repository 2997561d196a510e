-- How the sessions of the agent of prefixes stand where one place is set, or nothing changes.
use Rattle.std.proofs.Common.{◌≡◌, ◌≢◌, ◌⊎◌, sym, ap, ◌∙◌, subst, arith, inl, inr, ℕ, false, List, Option, None, Some, Contains, slice_get, slice_set, slice_index_or}
use Rattle.grasp_laws_agent.specs.Moves.{NothingMoves}
use Rattle.grasp_agent.specs.States.{AgentState, unsent_of, want_session}
use Rattle.grasp_agent.specs.Values.{returned_in}
use Rattle.grasp_agent.specs.declared.act.Act.{Act}
use Rattle.grasp_agent.specs.declared.back.Return.{Return}
use Rattle.grasp_agent.specs.declared.giving.Giving.{Giving}
use Rattle.grasp_model_node.specs.Node.{NodeState}
use Rattle.grasp_pool.specs.Holdings.{Holding, IsFree}
use Rattle.grasp_laws_session.proofs.Runs.{some_state}
use Rattle.grasp_session.proofs.Tables.{state_slot}
use Rattle.grasp_session.specs.Messages.{Side, Near, Far}
use Rattle.grasp_session.specs.Says.{IsAt}
use Rattle.grasp_session.specs.Sessions.{SessionState, Sessions, session_at}
use Rattle.grasp_session.specs.Transcript.{Transcript, request_of}
use Rattle.grasp_types.specs.Prefix.{AddressBlock as Prefix}
use Rattle.grasp_types.specs.declared.session.Handle.{Handle}
use Rattle.grasp_laws_agents.proofs.Places.{one_there, set_other, set_back}
use Rattle.grasp_laws_agents.proofs.Sides.{KeepKinds, none_offered, own_kind}
use Rattle.grasp_laws_agents.specs.Giving.{HasOffered, IsOpenOffer, is_offering, OfferStands, IsOwnSession, EntryStands, AcceptStands, WantStands, ReturnStands, OffersIn, in_entry, in_return, IsOffersSession, of_entry, of_return, Gives}
use Rattle.grasp_laws_agents.specs.OfferLaws.{WasOffered, was_there, was_gone, AgentMoves}

-- a call keeps what the agent gives, and this is what it makes of it
pub record Moved (n after : NodeState) (a b : AgentState) : Type 0 where
  pub gives : Gives after b
  pub moves : AgentMoves n after a b

-- ---- entries

-- where the entries stay
module _ (a b : AgentState) (still : b.giving ≡ a.giving) where
  pub same_entry : (place : ℕ) (g : Giving) → slice_get b.giving place ≡ Some g → slice_get a.giving place ≡ Some g
  same_entry place g at = ap (λ (l : List Giving). slice_get l place) (sym still) ∙ at

  -- and so does its return
  module _ (back : b.back ≡ a.back) where
    pub same_has : (h : Handle) (side : Side) → IsOffersSession a side h → IsOffersSession b side h
    same_has h side (of_entry far place g at same) = of_entry far place g (ap (λ (l : List Giving). slice_get l place) still ∙ at) same
    same_has h side (of_return near r is same) = of_return near r (back ∙ is) same

    pub same_offers : (n : NodeState) (side : Side) (h : Handle) (p : Prefix) → OffersIn b side h p → WasOffered n a b side h p
    same_offers n side h p (in_entry far place g at same offer) = was_there (in_entry far place g (same_entry place g at) same offer)
    same_offers n side h p (in_return near r is same offer) = was_there (in_return near r (sym back ∙ is) same offer)

pub same_unsent : (a b : AgentState) → b.back ≡ a.back → (p : Prefix) → unsent_of b.back ≡ Some p → unsent_of a.back ≡ Some p
same_unsent a b back p e = ap unsent_of (sym back) ∙ e

pub same_back : (n : NodeState) (a b : AgentState) → b.back ≡ a.back → Gives n a → (r : Return) (h : Handle) → b.back ≡ Some r → r.session ≡ Some h → ReturnStands n.sessions h r.prefix
same_back n a b back k r h is f = k.back r h (sym back ∙ is) f

pub same_apart : (n : NodeState) (a b : AgentState) → b.giving ≡ a.giving → Gives n a → (i j : ℕ) (g h : Giving) → slice_get b.giving i ≡ Some g → slice_get b.giving j ≡ Some h → g.handle ≡ h.handle → i ≡ j
same_apart n a b still k i j g h at there same = k.apart i j g h (same_entry a b still i g at) (same_entry a b still j h there) same

-- an entry whose offer, where it has one, was made
pub record PlainEntry (z : Sessions) (g : Giving) : Type 0 where
  pub session : SessionState
  pub own : IsOwnSession z g.handle Far session
  pub offer : OfferStands false g.offer session.view

pub plain : (z : Sessions) (a : AgentState) (place : ℕ) (g : Giving) → is_offering a.act place ≡ false → EntryStands z a place g → PlainEntry z g
plain z a place g f s = record { session = s.session; own = s.own; offer = subst (λ b. OfferStands b g.offer s.session.view) f s.offer }

pub stands : (z : Sessions) (a : AgentState) (place : ℕ) (g : Giving) → is_offering a.act place ≡ false → (s : PlainEntry z g) → AcceptStands a.act g.handle Far s.session.view → EntryStands z a place g
stands z a place g f s accept = record { session = s.session; own = s.own; offer = subst (λ b. OfferStands b g.offer s.session.view) (sym f) s.offer; accept = accept }

-- an agent that has no act is about to accept nothing, and each of its entries is such a one
pub none_accepts : (a : AgentState) (h : Handle) (side : Side) (v : Transcript) → a.act ≡ None → AcceptStands a.act h side v
none_accepts a h side v e = subst (λ (o : Option Act). AcceptStands o h side v) (sym e) tt

idle_offers : (a : AgentState) (place : ℕ) → a.act ≡ None → is_offering a.act place ≡ false
idle_offers a place e = ap (λ (o : Option Act). is_offering o place) e

pub rests : (z : Sessions) (a : AgentState) (place : ℕ) (g : Giving) → a.act ≡ None → PlainEntry z g → EntryStands z a place g
rests z a place g e s = stands z a place g (idle_offers a place e) s (none_accepts a g.handle Far s.session.view e)

pub idle_entry : (n : NodeState) (a : AgentState) (place : ℕ) (g : Giving) → Gives n a → a.act ≡ None → slice_get a.giving place ≡ Some g → PlainEntry n.sessions g
idle_entry n a place g k e at = plain n.sessions a place g (idle_offers a place e) (k.entries place g at)

-- ---- sessions

pub same_own : (z : Sessions) (h : Handle) (side : Side) (x y : SessionState) → IsOwnSession z h side x → session_at z h ≡ Some y → x ≡ y
same_own z h side x y o e = some_state x y (sym o.at ∙ e)

-- the two sides of a node lie at different places
pub sides_apart : (z : Sessions) (h k : Handle) (x y : SessionState) → IsOwnSession z h Near x → IsOwnSession z k Far y → k.place ≢ h.place
sides_apart z h k x y o p e =
    let same : x ≡ y = one_there z h.place x y (state_slot z h x o.at) (subst (λ q. IsAt z q y) e (state_slot z k y p.at)) in
    let clash : Near ≡ Far = sym o.role ∙ (ap (λ (u : SessionState). u.view.role) same ∙ p.role) in
    absurd (cc)

-- so do its sessions and one that no agent has taken
pub untaken_apart : (z : Sessions) (h k : Handle) (side : Side) (x y : SessionState) → IsAt z h.place x → x.owner ≡ 0 → IsOwnSession z k side y → k.place ≢ h.place
untaken_apart z h k side x y at none p e =
    let same : x ≡ y = one_there z h.place x y at (subst (λ q. IsAt z q y) e (state_slot z k y p.at)) in
    let clash : 0 ≡ 1 = sym none ∙ (ap (λ (u : SessionState). u.owner) same ∙ p.owner) in
    absurd (omega (arith, clash))

-- no session of agent 1 is at an empty place
pub empty_apart : (z : Sessions) (place : ℕ) (k : Handle) (side : Side) (y : SessionState) → slice_index_or z.places place None ≡ None → IsOwnSession z k side y → k.place ≢ place
empty_apart z place k side y empty p e =
    let clash : None ≡ Some y = sym empty ∙ subst (λ q. IsAt z q y) e (state_slot z k y p.at) in
    absurd (cc)

-- a live session that the agent requested, and not to give a prefix back
pub record IsAsked (z : Sessions) (h : Handle) (x : SessionState) : Type 0 where
  pub own : IsOwnSession z h Near x
  pub asks : returned_in (request_of x.view).value ≡ None

-- so do such a session and that of a return
pub asked_apart : (n : NodeState) (a : AgentState) (h l : Handle) (x : SessionState) (p : Prefix) → Gives n a → IsAsked n.sessions h x → ReturnStands n.sessions l p → l.place ≢ h.place
asked_apart n a h l x p k asked s e =
    let same : x ≡ s.session
    = one_there n.sessions h.place x s.session (state_slot n.sessions h x asked.own.at) (subst (λ q. IsAt n.sessions q s.session) e (state_slot n.sessions l s.session s.own.at)) in
    none_offered x.view p asked.own.role (own_kind n a h Near x k asked.own) asked.asks (subst (λ (u : SessionState). HasOffered u.view p) (sym same) s.offer)

module _ (z w : Sessions) (p : ℕ) (v : Option SessionState) (set : w.places ≡ slice_set z.places p v) where
  pub elsewhere : (k : Handle) (side : Side) (y : SessionState) → k.place ≢ p → IsOwnSession z k side y → IsOwnSession w k side y
  elsewhere k side y n o = record { at = set_other z w p v set k n ∙ o.at; owner = o.owner; role = o.role }

  pub own_was : (k : Handle) (side : Side) (y : SessionState) → IsOwnSession w k side y → ((k.place ≡ p) × (v ≡ Some y)) ⊎ ((k.place ≢ p) × IsOwnSession z k side y)
  own_was k side y o = by_case (set_back z w p v set k y o.at) where
    by_case : ((k.place ≡ p) × (v ≡ Some y)) ⊎ ((k.place ≢ p) × (session_at z k ≡ Some y)) → ((k.place ≡ p) × (v ≡ Some y)) ⊎ ((k.place ≢ p) × IsOwnSession z k side y)
    by_case (inl i) = inl i
    by_case (inr i) = inr (i.0, record { at = i.1; owner = o.owner; role = o.role })

  pub plain_elsewhere : (g : Giving) (s : PlainEntry z g) → g.handle.place ≢ p → PlainEntry w g
  plain_elsewhere g s n = record { session = s.session; own = elsewhere g.handle Far s.session n s.own; offer = s.offer }

  pub want_elsewhere : (a b : AgentState) (h : Handle) (s : WantStands z a h) → h.place ≢ p → b.act ≡ None → WantStands w b h
  want_elsewhere a b h s n idle = record { session = s.session; own = elsewhere h Near s.session n s.own; accept = none_accepts b h Near s.session.view idle; asks = s.asks }

  pub back_elsewhere : (h : Handle) (q : Prefix) (s : ReturnStands z h q) → h.place ≢ p → ReturnStands w h q
  back_elsewhere h q s n = record { session = s.session; own = elsewhere h Near s.session n s.own; offer = s.offer }

  -- a session that was live and still is lies on its stream
  pub set_streams : ((x y : SessionState) → IsAt z p x → v ≡ Some y → y.stream ≡ x.stream) → (h : Handle) (x y : SessionState) → session_at z h ≡ Some x → session_at w h ≡ Some y → y.stream ≡ x.stream
  set_streams f h x y e g = by_case (set_back z w p v set h y g) where
    by_case : ((h.place ≡ p) × (v ≡ Some y)) ⊎ ((h.place ≢ p) × (session_at z h ≡ Some y)) → y.stream ≡ x.stream
    by_case (inl i) = f x y (subst (λ q. IsAt z q x) i.0 (state_slot z h x e)) i.1
    by_case (inr i) = ap (λ (u : SessionState). u.stream) (some_state y x (sym i.1 ∙ e))

pub same_streams : (z w : Sessions) → w ≡ z → (h : Handle) (x y : SessionState) → session_at z h ≡ Some x → session_at w h ≡ Some y → y.stream ≡ x.stream
same_streams z w same h x y e g = ap (λ (u : SessionState). u.stream) (some_state y x (sym (ap (λ (s : Sessions). session_at s h) (sym same) ∙ g) ∙ e))

-- ---- where the agent changes nothing but its pool, and the node none of its sessions

pub gives_again : (n m : NodeState) (a b : AgentState) → m.sessions ≡ n.sessions → b.giving ≡ a.giving → b.want ≡ a.want → b.back ≡ a.back → b.act ≡ a.act → Gives n a → Gives m b
gives_again n m a b z giving wants returns act k = record {
  want = want;
  entries = entries;
  back = back;
  apart = same_apart n a b giving k;
  kinds = subst KeepKinds (sym z) k.kinds;
  live = live;
} where
  want : (h : Handle) → want_session b.want ≡ Some h → WantStands m.sessions b h
  want h e =
      let s = k.want h (ap want_session (sym wants) ∙ e) in
      record {
        session = s.session;
        own = subst (λ (y : Sessions). IsOwnSession y h Near s.session) (sym z) s.own;
        accept = subst (λ (o : Option Act). AcceptStands o h Near s.session.view) (sym act) s.accept;
        asks = s.asks;
      }

  entries : (place : ℕ) (g : Giving) → slice_get b.giving place ≡ Some g → EntryStands m.sessions b place g
  entries place g at =
      let s = k.entries place g (same_entry a b giving place g at) in
      record {
        session = s.session;
        own = subst (λ (y : Sessions). IsOwnSession y g.handle Far s.session) (sym z) s.own;
        offer = subst (λ (o : Option Act). OfferStands (is_offering o place) g.offer s.session.view) (sym act) s.offer;
        accept = subst (λ (o : Option Act). AcceptStands o g.handle Far s.session.view) (sym act) s.accept;
      }

  back : (r : Return) (h : Handle) → b.back ≡ Some r → r.session ≡ Some h → ReturnStands m.sessions h r.prefix
  back r h is f = subst (λ (y : Sessions). ReturnStands y h r.prefix) (sym z) (same_back n a b returns k r h is f)

  live : (h : Handle) (side : Side) (x : SessionState) (p : Prefix) → IsOwnSession m.sessions h side x → IsOpenOffer x.view p → IsOffersSession b side h
  live h side x p own pending = same_has a b giving returns h side (k.live h side x p (subst (λ (y : Sessions). IsOwnSession y h side x) z own) pending)

-- ---- where the pool stays, and so do offers

-- no offer is new but that of a return that is requested, and each session with an open offer that is no longer live was so before
pub record IsQuiet (n after : NodeState) (a b : AgentState) : Type 0 where
  pub streams : (h : Handle) (x y : SessionState) → session_at n.sessions h ≡ Some x → session_at after.sessions h ≡ Some y → y.stream ≡ x.stream
  pub pool : b.pool ≡ a.pool
  pub offered : (side : Side) (h : Handle) (p : Prefix) → OffersIn b side h p → WasOffered n a b side h p
  pub unsent : (p : Prefix) → unsent_of b.back ≡ Some p → unsent_of a.back ≡ Some p
  pub left : (x : SessionState) (p : Prefix) → IsOpenOffer x.view p → Contains after.sessions.gone x → Contains n.sessions.gone x

pub quiet : (n after : NodeState) (a b : AgentState) → IsQuiet n after a b → AgentMoves n after a b
quiet n after a b q = record {
  streams = λ h x y at owner there. q.streams h x y at there;
  freed = λ address f. inl (subst (λ (h : Holding). IsFree h address) q.pool f);
  offered = q.offered;
  unsent = q.unsent;
  doubts = λ x p has owner pending. was_gone (q.left x p pending has);
  keeps_doubts = λ p has. subst (λ (h : Holding). Contains h.doubtful p) (sym q.pool) has;
  reserved = λ p has. inl (subst (λ (h : Holding). Contains h.reserved p) q.pool has);
  doubtful = λ p has. inl (subst (λ (h : Holding). Contains h.doubtful p) q.pool has);
}

-- where the entries and the return stay too
pub same_quiet : (n after : NodeState) (a b : AgentState) → ((h : Handle) (x y : SessionState) → session_at n.sessions h ≡ Some x → session_at after.sessions h ≡ Some y → y.stream ≡ x.stream)
    → b.pool ≡ a.pool → b.giving ≡ a.giving → b.back ≡ a.back → ((x : SessionState) (p : Prefix) → IsOpenOffer x.view p → Contains after.sessions.gone x → Contains n.sessions.gone x) → AgentMoves n after a b
same_quiet n after a b streams pool giving back left =
    quiet n after a b (record { streams = streams; pool = pool; offered = same_offers a b giving back n; unsent = same_unsent a b back; left = left })

pub nothing_moved : (n m : NodeState) (a b : AgentState) → m.sessions ≡ n.sessions → NothingMoves a b → Gives n a → Moved n m a b
nothing_moved n m a b z q k = record {
  gives = gives_again n m a b z q.giving q.want.0 q.back q.act k;
  moves = same_quiet n m a b (same_streams n.sessions m.sessions z) q.pool q.giving q.back (λ x p pending has. subst (λ (y : Sessions). Contains y.gone x) z has);
}
