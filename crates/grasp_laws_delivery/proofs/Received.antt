-- Each datagram goes to a member.
use Rattle.std.proofs.Common.{◌≡◌, refl, sym, subst, ℕ, not, ◌==◌, length, List, [], ◌∷◌, fold, slice_get, take, Option, None, Some, All}
use Rattle.std.proofs.lemmas.List.Elements.{All-nil, All-filter, All-push}
use Rattle.std.proofs.lemmas.Option.{none-some, slice_get_within, get_or_from_slice_get, same_Some}
use Rattle.grasp_model_node.specs.Begin.{begin}
use Rattle.grasp_model_node.specs.Draining.{closes, after_drain}
use Rattle.grasp_model_node.specs.Node.{NodeState}
use Rattle.grasp_model_node.specs.Queue.{Queued, datagram, dial, send}
use Rattle.grasp_types.specs.declared.message.Message.{Message}
use Rattle.grasp_laws_network.proofs.Telling.{one_agent}
use Rattle.grasp_laws_network.specs.Telling.{OneAgent}
use Rattle.grasp_model_network.specs.GoodSetting.{IsLine, IsGoodSetting}
use Rattle.grasp_model_network.specs.Plans.{IsNode}
use Rattle.grasp_model_network.specs.Routes.{Route, place_among, route_to, route_along, route_on, route_of}
use Rattle.grasp_model_network.specs.Runs.{IsReached, first_world}
use Rattle.grasp_model_network.specs.Sending.{seat_with, posted, having_sent, having_closed, handed_over, drained, drained_at, drained_from}
use Rattle.grasp_model_network.specs.Setting.{Setting, line_of, link_of, others_on}
use Rattle.grasp_model_network.specs.World.{Seat, SentDatagram, WorldState, member_of, seat_at, with_seat}
use Rattle.grasp_laws_delivery.proofs.Holding.{PartsKeep, parts_keep}
use Rattle.grasp_laws_delivery.proofs.RangedNetworks.{stepped_same}

-- ---- a way

part_of : {A : Type 0} (P : A → Type 0) (xs : List A) (i : ℕ) (x : A) → All P xs → slice_get xs i ≡ Some x → P x
part_of P xs i x all at = subst P (get_or_from_slice_get xs i x x at) (all i x (slice_get_within xs i x at))

-- whoever receives a datagram is on a link, and so a member
pub route_member : (s : Setting) (sender link to : ℕ) (r : Route) → All (IsLine (length s.members)) s.lines → route_of s sender link to ≡ Some r → IsNode (length s.members) r.receiver
unfolding route_of
route_member s sender link to r good is = by_place (line_of sender s.lines link) is where
  by_receiver : (place : ℕ) (line : List ℕ) (o : Option ℕ) → slice_get s.lines place ≡ Some line → slice_get (others_on sender line) to ≡ o → route_to sender s.lines place line o ≡ Some r
      → IsNode (length s.members) r.receiver
  by_receiver place line None at found is = absurd (none-some r is)
  by_receiver place line (Some receiver) at found is =
      subst (λ (x : Route). IsNode (length s.members) x.receiver)
      (same_Some (record { receiver = receiver; link = link_of receiver s.lines place; from = place_among sender (others_on receiver line) }) r is)
      (part_of (IsNode (length s.members)) (others_on sender line) to receiver
      (All-filter (λ n. not (n == sender)) (IsNode (length s.members)) line (part_of (IsLine (length s.members)) s.lines place line good at).members) found)

  by_line : (place : ℕ) (o : Option (List ℕ)) → slice_get s.lines place ≡ o → route_along sender s.lines to place o ≡ Some r → IsNode (length s.members) r.receiver
  by_line place None at is = absurd (none-some r is)
  by_line place (Some line) at is = by_receiver place line (slice_get (others_on sender line) to) at refl is

  by_place : (o : Option ℕ) → route_on sender s.lines to o ≡ Some r → IsNode (length s.members) r.receiver
  by_place None is = absurd (none-some r is)
  by_place (Some place) is = by_line place (slice_get s.lines place) refl is

-- ---- what was sent

abbrev pub GoesToMember : Setting → SentDatagram → Type 0
GoesToMember s d = IsNode (length s.members) d.route.receiver

abbrev pub AllGo : Setting → WorldState → Type 0
AllGo s w = All (GoesToMember s) w.datagrams

module _ (s : Setting) (good : IsGoodSetting s) where
  posted_go : (w : WorldState) (m : Message) (o : Option Route) → ((r : Route) → o ≡ Some r → IsNode (length s.members) r.receiver) → AllGo s w → AllGo s (posted w m o)
  posted_go w m None goes all = all
  posted_go w m (Some r) goes all = All-push (GoesToMember s) w.datagrams (record { route = r; message = m }) all (goes r refl)

  sent_go : (node : ℕ) (w : WorldState) (q : Queued) → AllGo s w → AllGo s (having_sent s node w q)
  sent_go node w (datagram link to m) all = posted_go w m (route_of s (member_of w node) link to) (λ r is. route_member s (member_of w node) link to r good.lines is) all
  sent_go node w (dial stream to) all = all
  sent_go node w (send stream m) all = all

  handed_go : (node : ℕ) (qs : List Queued) (w : WorldState) → AllGo s w → AllGo s (fold (having_sent s node) w qs)
  handed_go node [] w all = all
  handed_go node (q ∷ qs) w all = handed_go node qs (having_sent s node w q) (sent_go node w q all)

  closed_go : (node : ℕ) (streams : List ℕ) (w : WorldState) → AllGo s w → AllGo s (fold (having_closed node) w streams)
  closed_go node [] w all = all
  closed_go node (stream ∷ streams) w all = closed_go node streams (having_closed node w stream) all

  drained_go : (w : WorldState) (node max : ℕ) (o : Option Seat) → AllGo s w → AllGo s (drained_at s w node max o)
  unfolding handed_over
  drained_go w node max None all = all
  drained_go w node max (Some seat) all = from (begin seat.core seat.core.reading) where
    from : (m : NodeState) → AllGo s (drained_from s w node seat m max)
    from m =
        let put : WorldState = with_seat w node (seat_with (after_drain m max) seat.agent) in
        closed_go node (closes m max) (fold (having_sent s node) put (take max m.queue)) (handed_go node (take max m.queue) put all)

  one_go : (w x : WorldState) → OneAgent w x → AllGo s w → AllGo s x
  one_go w x o all = subst (AllGo s) (sym o.after) all

  go_parts : PartsKeep s (AllGo s)
  unfolding drained
  go_parts = record {
    steps = λ w e c v r all o is step reached. subst (All (GoesToMember s)) (sym (stepped_same s w e v c step)) all;
    told = λ w x e r t all. one_go w x (one_agent s w e x t) all;
    drains = λ w node max r all least. drained_go w node max (seat_at w node) all;
    settles = λ w x node p r t all. one_go w x t.one all;
    restarts = λ w x node image r t all. subst (AllGo s) (sym t.rest) all;
  }

pub all_go : (s : Setting) (w : WorldState) → IsReached s w → AllGo s w
unfolding first_world
all_go s w r = parts_keep s (AllGo s) (go_parts s r.good) (All-nil (GoesToMember s)) w r
