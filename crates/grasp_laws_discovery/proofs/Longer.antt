-- What was answered stays so as a network grows.
use Rattle.std.proofs.Common.{sym, ◌∙◌, subst, ℕ, ◌≤◌, List, ◌++◌}
use Rattle.std.specs.Prelude.{Any, Contains}
use Rattle.std.proofs.lemmas.List.Elements.{All-weaker, Contains-append_left}
use Rattle.grasp_model_node.specs.Queue.{Queued, datagram, dial, send}
use Rattle.grasp_discovery.specs.declared.cached.Cached.{Cached}
use Rattle.grasp_discovery.specs.declared.topic.Topic.{Topic}
use Rattle.grasp_cbor.proofs.Facts.Numbers.{itself}
use Rattle.grasp_laws_network.proofs.Growing.{as_long, what_was_sent_stays_over_turns}
use Rattle.grasp_laws_network.proofs.Restarted.{Restarting, restarting_is}
use Rattle.grasp_laws_network.specs.Keeping.{IsLonger, StreamsGrow, WorldGrows}
use Rattle.grasp_model_network.specs.Restarting.{after_restart}
use Rattle.grasp_model_network.specs.Setting.{Setting}
use Rattle.grasp_model_network.specs.Visits.{no_choice}
use Rattle.grasp_model_network.specs.World.{SentDatagram, WorldState}
use Rattle.grasp_model_network.specs.declared.turn.Turn.TheVariants as turn
use Rattle.grasp_pool.specs.declared.image.PoolImage.{PoolImage}
use Rattle.grasp_types.specs.declared.address.Address.{Address}
use Rattle.grasp_types.specs.declared.address.Locator.{Locator}
use Rattle.grasp_types.specs.declared.message.Answer.{Answer}
use Rattle.grasp_types.specs.declared.message.Answer.TheVariants.{Locators, Divert}
use Rattle.grasp_types.specs.declared.message.Message.{Message}
use Rattle.grasp_types.specs.declared.message.Message.TheVariants.{Response}
use Rattle.grasp_laws_discovery.specs.Locators.{IsAnswerWith, WasAnswered, LooksFor, WasLookedFor, TellsAnswered, IsMessageReal, IsQueuedReal, IsEntryReal}

-- ---- lists

pub any_of : {X : Type 0} (P : X → Type 0) (xs : List X) (x : X) → Contains xs x → P x → Any P xs
any_of P xs x (k, within, at) p = (k, x, within, at, p)

any_more : {X : Type 0} (P : X → Type 0) (xs more : List X) → Any P xs → Any P (xs ++ more)
any_more P xs more (k, x, within, at, p) = any_of P (xs ++ more) x (Contains-append_left xs more x (k, within, at)) p

pub any_longer : {X : Type 0} (P : X → Type 0) (xs ys : List X) → IsLonger xs ys → Any P xs → Any P ys
any_longer P xs ys longer any = subst (Any P) (sym longer.1) (any_more P xs longer.0 any)

-- ---- networks

-- a restart takes back nothing that was sent
pub restarting_grows : (s : Setting) (w x : WorldState) (node : ℕ) (image : PoolImage) → Restarting s w node image x → WorldGrows w x
restarting_grows s w x node image t = record {
  datagrams = subst (IsLonger w.datagrams) (sym t.datagrams) (as_long w.datagrams);
  streams = subst (StreamsGrow w.streams) (again.streams ∙ sym t.streams) (what_was_sent_stays_over_turns s w (turn.Restart node image) no_choice).streams;
  dials = subst (λ n. w.dials ≤ n) (sym t.dials) (itself w.dials);
  byte_count = subst (λ n. w.byte_count ≤ n) (sym t.byte_count) (itself w.byte_count);
  flood_calls = subst (IsLonger w.flood_calls) (sym t.flood_calls) (as_long w.flood_calls);
  floods_read = subst (IsLonger w.floods_read) (sym t.floods_read) (as_long w.floods_read);
  searches = subst (IsLonger w.searches) (sym t.searches) (as_long w.searches);
  answers = subst (IsLonger w.answers) (sym t.answers) (as_long w.answers);
  handles = subst (IsLonger w.handles) (sym t.handles) (as_long w.handles);
} where
  again : Restarting s w node image (after_restart s w node image)
  again = restarting_is s w node image (record { member = t.member; found = t.found; seat = t.seat; here = t.here; image_is = t.image_is })

pub answered_longer : (s : Setting) (w x : WorldState) → WorldGrows w x → (topic : Topic) (locator : Locator) → WasAnswered s w topic locator → WasAnswered s x topic locator
answered_longer s w x g topic locator k = any_longer (IsAnswerWith s topic locator) w.answers x.answers g.answers k

pub looked_longer : (w x : WorldState) → WorldGrows w x → (session : ℕ) (initiator : Address) (topic : Topic) → WasLookedFor w session initiator topic → WasLookedFor x session initiator topic
looked_longer w x g session initiator topic k = any_longer (λ (d : SentDatagram). LooksFor session initiator topic d.message) w.datagrams x.datagrams g.datagrams k

tells_longer : (s : Setting) (w x : WorldState) → WorldGrows w x → (topic : Topic) (told : Answer) → TellsAnswered s w topic told → TellsAnswered s x topic told
tells_longer s w x g topic (Locators locators) k = (k.0, k.1, answered_longer s w x g topic k.0 k.2)
tells_longer s w x g topic (Divert locators) k = All-weaker (WasAnswered s w topic) (WasAnswered s x topic) (answered_longer s w x g topic) locators k

pub message_longer : (s : Setting) (w x : WorldState) → WorldGrows w x → (m : Message) → IsMessageReal s w m → IsMessageReal s x m
message_longer s w x g (Response session initiator ttl told o) k = record {
  topic = k.topic;
  looked_for = looked_longer w x g session initiator k.topic k.looked_for;
  answered = tells_longer s w x g k.topic told k.answered;
}
message_longer s w x g _ k = tt

pub queued_longer : (s : Setting) (w x : WorldState) → WorldGrows w x → (q : Queued) → IsQueuedReal s w q → IsQueuedReal s x q
queued_longer s w x g (send stream m) k = message_longer s w x g m k
queued_longer s w x g (dial stream to) k = tt
queued_longer s w x g (datagram link to m) k = tt

pub entry_longer : (s : Setting) (w x : WorldState) → WorldGrows w x → (entry : Topic × List Cached) → IsEntryReal s w entry → IsEntryReal s x entry
entry_longer s w x g entry k =
    All-weaker (λ (one : Cached). WasAnswered s w entry.0 one.locator) (λ (one : Cached). WasAnswered s x entry.0 one.locator) (λ one. answered_longer s w x g entry.0 one.locator) entry.1 k
