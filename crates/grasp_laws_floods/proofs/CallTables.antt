-- What a call of an agent leaves in a node's cache of floods and among its registered objectives.
use Rattle.std.proofs.Common.{◌≡◌, refl, sym, subst, ℕ, true, false, not, List, All, Some, None, Ok}
use Rattle.std.proofs.lemmas.List.Elements.{All-filter}
use Rattle.grasp_asa.specs.Answers.{names_of, register_asa_answer, deregister_asa_answer, register_objective_answer, deregister_objective_answer, listen_answer, offer_answer, after_register_asa, after_deregister_asa, after_register_objective, after_deregister_objective, after_listen, after_offer}
use Rattle.grasp_asa.specs.Registrations.{Registrations}
use Rattle.grasp_model_node.specs.Declines.{Declining, after_declines, declines_of}
use Rattle.grasp_model_node.specs.FloodCalls.{find_of, looked}
use Rattle.grasp_model_node.specs.Moves.{with_registrations, with_sessions, with_discoveries, with_floods, with_draw, begin_closing, dial_record, queue_up}
use Rattle.grasp_model_node.specs.Node.{NodeState}
use Rattle.grasp_model_node.specs.RegistryCalls.{declines_for, without_agent, without_objective, without_searches, without_sessions, with_mark}
use Rattle.grasp_model_node.specs.SessionCalls.{after_polling, with_adopted}
use Rattle.grasp_model_node.specs.Step.{after_call}
use Rattle.grasp_discovery.specs.declared.answers.Find.{Find}
use Rattle.grasp_discovery.specs.declared.answers.Find.TheVariants as find
use Rattle.grasp_flood.specs.Flood.{same_key, key_of}
use Rattle.grasp_flood.specs.declared.keys.FloodKey.{FloodKey}
use Rattle.grasp_flood.specs.declared.kept.FloodKept.{FloodKept}
use Rattle.grasp_session.specs.Sessions.{untaken_reply}
use Rattle.grasp_types.specs.declared.call.Call.{Call}
use Rattle.grasp_types.specs.declared.call.Call.TheVariants as call
use Rattle.grasp_types.specs.declared.reply.ApiAnswer.{ApiAnswer}
use Rattle.grasp_types.specs.declared.session.Kind.{Kind}
use Rattle.grasp_laws_floods.proofs.Leaving.{Leaves, declines_leave, sessions_leave, adopting_leaves, polling_leaves}
use Rattle.grasp_laws_floods.proofs.Ranges.{IsInRange}
use Rattle.grasp_laws_floods.proofs.Registries.{AllHaveFlags, agent_flags, leaving_flags, objective_flags, dropping_flags, listen_flags, offer_flags}

-- what a node keeps of floods is so, and what is registered has flags
pub record Tables (P : FloodKey × FloodKept → Type 0) (n : NodeState) : Type 0 where
  pub entries : All P n.floods.entries
  pub flags : AllHaveFlags n.registrations

-- two states of a node that keep the same floods and the same registrations
record SameTables (n after : NodeState) : Type 0 where
  floods : after.floods ≡ n.floods
  registrations : after.registrations ≡ n.registrations

same_tables : (P : FloodKey × FloodKept → Type 0) (n after : NodeState) → SameTables n after → Tables P n → Tables P after
same_tables P n after s t = record {
  entries = subst (λ f. All P f.entries) (sym s.floods) t.entries;
  flags = subst AllHaveFlags (sym s.registrations) t.flags;
}

pub tables_stay : (P : FloodKey × FloodKept → Type 0) (n after : NodeState) → Leaves n after → Tables P n → Tables P after
tables_stay P n after l t = same_tables P n after (record { floods = l.floods; registrations = l.registrations }) t

-- ---- a search, and what is registered

looked_same : (n : NodeState) (asa : ℕ) (name : List ℕ) (kind : Kind) (loops timeout : ℕ) (f : Find) → SameTables n (looked n asa name kind loops timeout f)
unfolding with_discoveries with_draw queue_up
looked_same n asa name kind loops timeout (find.Found locators) = record { floods = refl; registrations = refl }
looked_same n asa name kind loops timeout _ = record { floods = refl; registrations = refl }

-- what is registered now has flags
registered : (P : FloodKey × FloodKept → Type 0) (n : NodeState) (r : Registrations) → AllHaveFlags r → Tables P n → Tables P (with_registrations n r)
unfolding with_registrations
registered P n r flags t = record { entries = t.entries; flags = flags }

-- ---- each call

pub call_tables : (P : FloodKey × FloodKept → Type 0) (n : NodeState) (asa : ℕ) (it : Call) (a : ApiAnswer) → IsInRange it → Tables P n → Tables P (after_call n asa it (Ok a))
unfolding with_sessions with_discoveries with_floods with_draw begin_closing dial_record queue_up
call_tables P n asa (call.RegisterAsa name) a k t =
    registered P n (after_register_asa n.registrations name (register_asa_answer n.registrations name)) (agent_flags n.registrations name (register_asa_answer n.registrations name) t.flags) t
call_tables P n asa call.DeregisterAsa a k t = left (sessions_leave 64 (without_searches (after_declines (without_agent n asa) ds) asa) asa) where
  ds : List Declining
  ds = declines_for n.sessions (names_of n.registrations asa)

  gone : Tables P (after_declines (without_agent n asa) ds)
  gone =
      tables_stay P (without_agent n asa) (after_declines (without_agent n asa) ds) (declines_leave ds (without_agent n asa))
      (registered P n (after_deregister_asa n.registrations asa (deregister_asa_answer n.registrations asa))
      (leaving_flags n.registrations asa (deregister_asa_answer n.registrations asa) t.flags) t)

  left : Leaves (without_searches (after_declines (without_agent n asa) ds) asa) (without_sessions 64 (without_searches (after_declines (without_agent n asa) ds) asa) asa)
      → Tables P (without_sessions 64 (without_searches (after_declines (without_agent n asa) ds) asa) asa)
  left l =
      same_tables P (after_declines (without_agent n asa) ds) (without_sessions 64 (without_searches (after_declines (without_agent n asa) ds) asa) asa)
      (record { floods = l.floods; registrations = l.registrations }) gone
call_tables P n asa (call.RegisterObjective name flags) a k t =
    registered P n (after_register_objective n.registrations asa name flags (register_objective_answer n.registrations asa name flags))
    (objective_flags n.registrations asa name flags (register_objective_answer n.registrations asa name flags) k t.flags) t
call_tables P n asa (call.DeregisterObjective name) a k t =
    tables_stay P (without_objective n asa name) (after_declines (without_objective n asa name) (declines_of n.sessions name)) (declines_leave (declines_of n.sessions name) (without_objective n asa name))
    (registered P n (after_deregister_objective n.registrations asa name (deregister_objective_answer n.registrations asa name))
    (dropping_flags n.registrations asa name (deregister_objective_answer n.registrations asa name) t.flags) t)
call_tables P n asa (call.Discover name kind loops timeout) a k t =
    same_tables P n (looked n asa name kind loops timeout (find_of n asa name kind)) (looked_same n asa name kind loops timeout (find_of n asa name kind)) t
call_tables P n asa (call.ListenNegotiate name) a k t =
    tables_stay P (with_mark n asa name true) (with_adopted (with_mark n asa name true) asa (untaken_reply n.sessions name)) (adopting_leaves (with_mark n asa name true) asa (untaken_reply n.sessions name))
    (registered P n (after_listen n.registrations name true (listen_answer n.registrations asa name)) (listen_flags n.registrations name true (listen_answer n.registrations asa name) t.flags) t)
call_tables P n asa (call.StopListenNegotiate name) a k t =
    tables_stay P (with_mark n asa name false) (after_declines (with_mark n asa name false) (declines_of n.sessions name)) (declines_leave (declines_of n.sessions name) (with_mark n asa name false))
    (registered P n (after_listen n.registrations name false (listen_answer n.registrations asa name)) (listen_flags n.registrations name false (listen_answer n.registrations asa name) t.flags) t)
call_tables P n asa (call.Poll h) a k t = tables_stay P n (after_polling n h (Ok a)) (polling_leaves n h a) t
call_tables P n asa (call.ListenSynchronize name value) a k t =
    registered P n (after_offer n.registrations name (Some value) (offer_answer n.registrations asa name)) (offer_flags n.registrations name (Some value) (offer_answer n.registrations asa name) t.flags) t
call_tables P n asa (call.StopListenSynchronize name) a k t =
    registered P n (after_offer n.registrations name None (offer_answer n.registrations asa name)) (offer_flags n.registrations name None (offer_answer n.registrations asa name) t.flags) t
call_tables P n asa (call.GetFlood name) a k t = t
call_tables P n asa (call.ExpireFlood name initiator) a k t = record {
  entries = All-filter (λ entry. not (same_key (key_of name initiator) entry.0)) P n.floods.entries t.entries;
  flags = t.flags;
}
call_tables P n asa _ a k t = record { entries = t.entries; flags = t.flags }
