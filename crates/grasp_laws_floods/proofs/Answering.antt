-- What a call is told of floods is what the node keeps.
use Rattle.std.proofs.Common.{◌≡◌, sym, subst, ℕ, ◌+◌, List, filter, All, Option, Some, None, Result, Ok, Err}
use Rattle.std.proofs.lemmas.List.Elements.{All-filter, All-nil, All-map}
use Rattle.grasp_agent.specs.Announcing.{reads_in}
use Rattle.grasp_model_node.specs.FloodCalls.{find_of, found_as}
use Rattle.grasp_model_node.specs.Node.{NodeState}
use Rattle.grasp_model_node.specs.SessionCalls.{polled, incoming, opener_at, taken_in, started}
use Rattle.grasp_model_node.specs.Step.{MayCall, Calls}
use Rattle.grasp_discovery.specs.declared.answers.Find.{Find}
use Rattle.grasp_discovery.specs.declared.answers.Find.TheVariants as find
use Rattle.grasp_flood.specs.Floods.{read_of, is_named, reads_of}
use Rattle.grasp_model_network.specs.Notes.{read_by, floods_read_in}
use Rattle.grasp_model_network.specs.Setting.{Member}
use Rattle.grasp_model_network.specs.World.{FloodCall}
use Rattle.grasp_session.specs.Sessions.{poll_reply, untaken_reply, adopt_reply, start_reply}
use Rattle.grasp_session.specs.declared.answer.SessionRefused.{SessionRefused}
use Rattle.grasp_types.specs.declared.address.Address.{Address}
use Rattle.grasp_types.specs.declared.call.Call.{Call}
use Rattle.grasp_types.specs.declared.call.Call.TheVariants as call
use Rattle.grasp_types.specs.declared.objective.Objective.{Objective}
use Rattle.grasp_types.specs.declared.reply.ApiAnswer.{ApiAnswer}
use Rattle.grasp_types.specs.declared.reply.ApiAnswer.TheVariants as answer
use Rattle.grasp_types.specs.declared.reply.Reply.{Reply}
use Rattle.grasp_types.specs.declared.reply.Reply.TheVariants as reply
use Rattle.grasp_types.specs.declared.session.Handle.{Handle}
use Rattle.grasp_types.specs.declared.session.Progress.{Progress}
use Rattle.grasp_laws_floods.proofs.Made.{EntryMade, ReadMade}

-- each flood that the answer tells is made
abbrev pub AnswerMade : List Member → List FloodCall → ApiAnswer → Type 0
AnswerMade ms calls a = All (ReadMade ms calls) (read_by (reads_in (Some a)))

reads_made : (ms : List Member) (calls : List FloodCall) (n : NodeState) (name : List ℕ) → All (EntryMade ms calls) n.floods.entries → All (ReadMade ms calls) (reads_of n.floods name)
reads_made ms calls n name all =
    All-map (ReadMade ms calls) read_of (filter (is_named name) n.floods.entries) (All-filter (is_named name) (EntryMade ms calls) n.floods.entries all)

-- ---- answers that tell of no flood

found_tells : (ms : List Member) (calls : List FloodCall) (f : Find) → AnswerMade ms calls (found_as f)
found_tells ms calls (find.Found locators) = All-nil (ReadMade ms calls)
found_tells ms calls _ = All-nil (ReadMade ms calls)

polled_tells : (ms : List Member) (calls : List FloodCall) (r : Result Progress SessionRefused) → AnswerMade ms calls (polled r)
polled_tells ms calls (Ok progress) = All-nil (ReadMade ms calls)
polled_tells ms calls (Err refused) = All-nil (ReadMade ms calls)

started_tells : (ms : List Member) (calls : List FloodCall) (r : Result Handle SessionRefused) → AnswerMade ms calls (started r)
started_tells ms calls (Ok h) = All-nil (ReadMade ms calls)
started_tells ms calls (Err refused) = All-nil (ReadMade ms calls)

incoming_tells : (ms : List Member) (calls : List FloodCall) (h : Handle) (from : Address) (o : Option Objective) → AnswerMade ms calls (incoming h from o)
incoming_tells ms calls h from None = All-nil (ReadMade ms calls)
incoming_tells ms calls h from (Some o) = All-nil (ReadMade ms calls)

taken_tells : (ms : List Member) (calls : List FloodCall) (n : NodeState) (h : Option Handle) → AnswerMade ms calls (taken_in n h)
taken_tells ms calls n None = All-nil (ReadMade ms calls)
taken_tells ms calls n (Some h) = incoming_tells ms calls h (opener_at n h) (adopt_reply n.sessions h)

-- ---- each call

-- the answer is this one
told : (ms : List Member) (calls : List FloodCall) (a b : ApiAnswer) → a ≡ b → AnswerMade ms calls b → AnswerMade ms calls a
told ms calls a b e k = subst (AnswerMade ms calls) (sym e) k

none_told : (ms : List Member) (calls : List FloodCall) (a : ApiAnswer) → a ≡ answer.Done → AnswerMade ms calls a
none_told ms calls a e = told ms calls a answer.Done e (All-nil (ReadMade ms calls))

answer_made : (ms : List Member) (calls : List FloodCall) (n : NodeState) (asa : ℕ) (it : Call) (a : ApiAnswer) → MayCall n asa it (Ok a) → All (EntryMade ms calls) n.floods.entries → AnswerMade ms calls a
answer_made ms calls n asa (call.RegisterAsa name) a m k = told ms calls a (answer.Asa (n.registrations.made + 1)) m.2 (All-nil (ReadMade ms calls))
answer_made ms calls n asa (call.Discover name kind loops timeout) a m k = told ms calls a (found_as (find_of n asa name kind)) m.2 (found_tells ms calls (find_of n asa name kind))
answer_made ms calls n asa (call.RequestNegotiate name value loops timeout dry peer) a m k = told ms calls a (started (start_reply n.sessions)) m.2 (started_tells ms calls (start_reply n.sessions))
answer_made ms calls n asa (call.ListenNegotiate name) a m k =
    told ms calls a (taken_in n (untaken_reply n.sessions name)) m.2 (taken_tells ms calls n (untaken_reply n.sessions name))
answer_made ms calls n asa (call.Poll h) a m k = told ms calls a (polled (poll_reply n.sessions asa h)) m.2 (polled_tells ms calls (poll_reply n.sessions asa h))
answer_made ms calls n asa (call.Synchronize name loops timeout peer) a m k = told ms calls a (started (start_reply n.sessions)) m.2 (started_tells ms calls (start_reply n.sessions))
answer_made ms calls n asa (call.GetFlood name) a m k = told ms calls a (answer.Floods (reads_of n.floods name)) m.2 (reads_made ms calls n name k)
answer_made ms calls n asa _ a m k = none_told ms calls a m.2

-- what is read by a call is what the node keeps
pub read_made : (ms : List Member) (calls : List FloodCall) (n after : NodeState) (asa : ℕ) (it : Call) (r : Reply) → Calls n asa it r after → All (EntryMade ms calls) n.floods.entries
    → All (ReadMade ms calls) (floods_read_in r)
unfolding floods_read_in
read_made ms calls n after asa it (reply.Api a) c k = answer_made ms calls n asa it a c.0 k
read_made ms calls n after asa it (reply.Refused refused) c k = All-nil (ReadMade ms calls)
read_made ms calls n after asa it _ c k = absurd c
