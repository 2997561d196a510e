-- Where an agent leaves, its sessions and the requests for its objectives end, and nothing else does.
use Rattle.std.proofs.Common.{◌≡◌, ◌≢◌, ◌+◌, ◌<◌, ◌⊎◌, inl, inr, ℕ, zero, suc, List, [], ◌∷◌, ◌++◌, Contains, None, Some, refl, sym, ap, ◌∙◌, subst, arith}
use Rattle.std.proofs.lemmas.List.Elements.{Contains-append_left, Contains-append_right}
use Rattle.grasp_asa.specs.Answers.{names_of}
use Rattle.grasp_laws_leaving.proofs.InTurn.{each_weaker, Names, untaken_each, ListedFor, listed_for, all_apart, agent_keeps, names_differ, begin_fresh}
use Rattle.grasp_laws_leaving.proofs.Less.{Less, less_same, less_both, IsEmptied, DeclinesLess, declines_less, sessions_less}
use Rattle.grasp_laws_leaving.proofs.Listed.{AreOf}
use Rattle.grasp_laws_leaving.proofs.Turns.{Each, each_both}
use Rattle.grasp_laws_leaving.specs.Ends.{IsItsOwn, EndsItsOwn, LeavingEndsItsOwn}
use Rattle.grasp_laws_leaving.specs.InTurn.{AreOfEach, owned_names}
use Rattle.grasp_laws_node.proofs.Bounded.Nodes.{begin_kept}
use Rattle.grasp_laws_node.specs.Means.{IsUntaken}
use Rattle.grasp_laws_node.specs.MeansRegistry.{DeregisterAsaMeans}
use Rattle.grasp_laws_session.proofs.Runs.{calls_in_order}
use Rattle.grasp_model_node.specs.Begin.{begin}
use Rattle.grasp_model_node.specs.BoundedNodes.{IsBoundedNode}
use Rattle.grasp_model_node.specs.Declines.{Declining, after_declines}
use Rattle.grasp_model_node.specs.Moves.{with_registrations, with_discoveries}
use Rattle.grasp_model_node.specs.Node.{NodeState}
use Rattle.grasp_model_node.specs.RegistryCalls.{declines_for, without_agent, without_searches, without_sessions}
use Rattle.grasp_session.proofs.Tables.{state_slot}
use Rattle.grasp_session.specs.Made.{AreFresh}
use Rattle.grasp_session.specs.Runs.{AreInOrder}
use Rattle.grasp_session.specs.Says.{IsAt}
use Rattle.grasp_session.specs.Sessions.{SessionState, Sessions}

-- ---- the untaken sessions of these objectives

abbrev IsOfNames : List (List ℕ) → SessionState → Type 0
IsOfNames names x = (name : List ℕ) × Contains names name × IsUntaken name x

abbrev IsLive : List ℕ → Sessions → SessionState → Type 0
IsLive name z x = (place : ℕ) × IsAt z place x × IsUntaken name x

of_names : (names : List (List ℕ)) (z : Sessions) (xs : List SessionState) → AreOfEach names z xs → Each (IsOfNames names) xs
of_names [] z xs e = subst (Each (IsOfNames [])) (sym e) tt
of_names (name ∷ names) z xs e =
    subst (Each (IsOfNames (name ∷ names))) (sym e.4)
    (each_both (IsOfNames (name ∷ names)) e.0 e.1
    (each_weaker (IsLive name z) (IsOfNames (name ∷ names)) e.0 (λ x u. (name, (zero, omega arith, refl), u.2)) (untaken_each name z e.0 e.2))
    (each_weaker (IsOfNames names) (IsOfNames (name ∷ names)) e.1 (λ x u. let within = u.1.1 in (u.0, (suc u.1.0, omega (arith, within), u.1.2), u.2)) (of_names names z e.1 e.3)))

in_names : (names : List (List ℕ)) (z : Sessions) (xs : List SessionState) → AreOfEach names z xs → (place : ℕ) (x : SessionState) (name : List ℕ) → IsAt z place x → Contains names name → IsUntaken name x → Contains xs x
in_names [] z xs e place x name at (k, within, i) u = absurd (omega (arith, within))
in_names (first ∷ names) z xs e place x name at (zero, within, i) u =
    subst (λ (l : List SessionState). Contains l x) (sym e.4) (Contains-append_left e.0 e.1 x ((e.2.each x).1 (place, at, subst (λ (w : List ℕ). IsUntaken w x) (sym i) u)))
in_names (first ∷ names) z xs e place x name at (suc k, within, i) u =
    subst (λ (l : List SessionState). Contains l x) (sym e.4) (Contains-append_right e.0 e.1 x (in_names names z e.1 e.3 place x name at (k, omega (arith, within), i) u))

-- a session of a decline is gone
gone_of : (z : Sessions) (m : NodeState) → AreInOrder z → (ds : List Declining) (xs : List SessionState) → AreOf z ds xs → Each (IsEmptied m) ds → (place : ℕ) (x : SessionState) → Contains xs x → IsAt z place x → IsAt m.sessions place x → ⊥
gone_of z m order [] [] of gone place x (k, within, i) at there = absurd (omega (arith, within))
gone_of z m order [] (y ∷ ys) of gone place x c at there = absurd of
gone_of z m order (d ∷ ds) [] of gone place x c at there = absurd of
gone_of z m order (d ∷ ds) (y ∷ ys) of gone place x (zero, within, i) at there =
    let same : place ≡ d.handle.place = order.apart place d.handle.place x y at (state_slot z d.handle y of.0.at) (ap (λ (w : SessionState). w.number) (sym i)) in
    gone.0 x (subst (λ (k : ℕ). IsAt m.sessions k x) same there)
gone_of z m order (d ∷ ds) (y ∷ ys) of gone place x (suc k, within, i) at there = gone_of z m order ds ys of.1 gone.1 place x (k, omega (arith, within), i) at there

-- ---- all of it

agent_streams : (n : NodeState) (asa : ℕ) → (without_agent n asa).streams ≡ n.streams
unfolding with_registrations
agent_streams n asa = refl

searches_same : (n : NodeState) (asa : ℕ) → ((without_searches n asa).sessions ≡ n.sessions) × ((without_searches n asa).streams ≡ n.streams)
unfolding with_discoveries
searches_same n asa = (refl, refl)

module _ (n : NodeState) (asa : ℕ) (kept : IsBoundedNode n) (fresh : AreFresh n.sessions) where
  abbrev ds : List Declining
  ds = declines_for n.sessions (names_of n.registrations asa)

  abbrev left : NodeState
  left = after_declines (without_agent n asa) ds

  abbrev last : NodeState
  last = without_sessions 64 (without_searches left asa) asa

  listed : ListedFor (owned_names n asa) n.sessions ds
  listed = listed_for n (owned_names n asa) kept.sessions fresh (names_differ asa n.registrations.objectives kept.registrations.objective_names)

  declines : DeclinesLess (IsItsOwn n asa) (without_agent n asa) left ds
  declines =
      declines_less (IsItsOwn n asa) (without_agent n asa) ds listed.sessions (subst (λ (z : Sessions). AreOf z ds listed.sessions) (sym (agent_keeps n asa).1) listed.of)
      (each_weaker (IsOfNames (owned_names n asa)) (IsItsOwn n asa) listed.sessions (λ x u. inr u) (of_names (owned_names n asa) n.sessions listed.sessions listed.are))
      (all_apart n.sessions ds listed.sessions listed.of listed.different)

  leaves : Less (IsItsOwn n asa) left last
  leaves =
      less_both (IsItsOwn n asa) left (without_searches left asa) last (less_same (IsItsOwn n asa) left (without_searches left asa) (searches_same left asa).0 (searches_same left asa).1)
      (sessions_less (IsItsOwn n asa) 64 (without_searches left asa) asa (λ x own. inl own))

  all : Less (IsItsOwn n asa) n last
  all =
      less_both (IsItsOwn n asa) n (without_agent n asa) last (less_same (IsItsOwn n asa) n (without_agent n asa) (agent_keeps n asa).1 (agent_streams n asa))
      (less_both (IsItsOwn n asa) (without_agent n asa) left last declines.less leaves)

  ends : ((place : ℕ) (x : SessionState) → IsAt last.sessions place x → x.owner ≢ asa) → EndsItsOwn n asa last
  ends none = record { none_left = none_left; others_stay = all.stay; none_comes = all.within; closes = λ place x r at own. all.closed place x r at (λ there. none_left place x there own); records = all.others } where
    none_left : (place : ℕ) (x : SessionState) → IsAt last.sessions place x → IsItsOwn n asa x → ⊥
    none_left place x there (inl own) = none place x there own
    none_left place x there (inr u) =
        let at : IsAt n.sessions place x = all.within place x there in
        gone_of n.sessions left (calls_in_order n.sessions kept.sessions) ds listed.sessions listed.of declines.gone place x
        (in_names (owned_names n asa) n.sessions listed.sessions listed.are place x u.0 at u.1 u.2) at (leaves.within place x there)

pub leaving_ends_its_own : DeregisterAsaMeans → LeavingEndsItsOwn
leaving_ends_its_own means n after now asa x a k t s =
    let kept : IsBoundedNode (begin n now) = begin_kept n now k in
    subst (EndsItsOwn (begin n now) asa) (sym s.acts.1) (ends (begin n now) asa kept (begin_fresh n now x k t) (means (begin n now) asa a kept s.acts.0).no_session)
