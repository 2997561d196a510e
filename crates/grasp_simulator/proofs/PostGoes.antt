-- A datagram that goes along a node's way.
use Rattle.std.proofs.Common.{◌≡◌, refl, sym, ap, ◌∙◌, subst, arith, ℕ, ◌+◌, min, List, [], ◌∷◌, ◌++◌, length, map, Option, Some, None, option_map, slice_get}
use Rattle.std.proofs.lemmas.List.{map-append}
use Rattle.std.proofs.lemmas.List.Elements.{All-cons, All-nil}
use Rattle.std.proofs.lemmas.Option.{none-some, same_Some}
use Rattle.grasp_model_node.specs.Queue.{encoding}
use Rattle.grasp_model_network.specs.Plans.{IsNode, IsGoodPlan, IsGoodLink}
use Rattle.grasp_model_network.specs.Routes.{Route, route_of, route_on, route_along, route_to}
use Rattle.grasp_model_network.specs.Sending.{posted}
use Rattle.grasp_model_network.specs.Setting.{Setting, line_of, others_on, script_setting}
use Rattle.grasp_model_network.specs.World.{SentDatagram, WorldState}
use Rattle.grasp_types.specs.declared.message.Message.{Message}
use Rattle.grasp_model_network.specs.declared.plan.WorldPlan.{WorldPlan}
use Rattle.grasp_simulator.specs.Sends.{way_of, AreGoodLinks, IsWay, Posts}
use Rattle.grasp_simulator.specs.WorldStands.{GoesToNode, WorldKeeps, parcel_of, most_count}
use Rattle.grasp_simulator.specs.declared.parcel.Parcel.{Parcel}
use Rattle.grasp_simulator.specs.declared.ways.Way.{Way}
use Rattle.grasp_simulator.specs.declared.world.World.{World}
use Rattle.grasp_simulator.proofs.Noting.{all_append}
use Rattle.grasp_simulator.proofs.WayLines.{good_line, other_node}

good_links : (p : WorldPlan) → IsGoodPlan p → AreGoodLinks p.nodes p.links
good_links p good = record { links = good.links; few = good.few_links }

-- the way that the code finds is that of the network
route_is : (code : World) (s : Setting) (w : WorldState) (node link to : ℕ) (way : Option Way) → WorldKeeps code s w → IsWay code.plan.links node link to way → way ≡ option_map way_of (route_of s node link to)
unfolding route_of script_setting
route_is code s w node link to way keeps is = is code.plan.nodes (good_links code.plan keeps.good) ∙ ap (λ (x : Setting). option_map way_of (route_on node x.lines to (line_of node x.lines link))) (sym keeps.setting)

-- a way ends at one of so many nodes
abbrev ReachesNode : ℕ → Option Route → Type 0
ReachesNode nodes None = Unit {0}
ReachesNode nodes (Some r) = IsNode nodes r.receiver

reaches_node : (code : World) (s : Setting) (w : WorldState) (node link to : ℕ) → WorldKeeps code s w → ReachesNode code.plan.nodes (route_of s node link to)
unfolding route_of script_setting
reaches_node code s w node link to keeps = subst (λ (x : Setting). ReachesNode code.plan.nodes (route_on node x.lines to (line_of node x.lines link))) (sym keeps.setting) (by_line (line_of node code.plan.links link)) where
  by_receiver : (line : List ℕ) (place : ℕ) (o : Option ℕ) → IsGoodLink code.plan.nodes line → slice_get (others_on node line) to ≡ o → ReachesNode code.plan.nodes (route_to node code.plan.links place line o)
  by_receiver line place None good got = tt
  by_receiver line place (Some receiver) good got = other_node code.plan.nodes line node to receiver good got

  by_place : (place : ℕ) (o : Option (List ℕ)) → slice_get code.plan.links place ≡ o → ReachesNode code.plan.nodes (route_along node code.plan.links to place o)
  by_place place None got = tt
  by_place place (Some line) got = by_receiver line place (slice_get (others_on node line) to) (good_line code.plan.nodes code.plan.links place line (good_links code.plan keeps.good) got) refl

  by_line : (o : Option ℕ) → ReachesNode code.plan.nodes (route_on node code.plan.links to o)
  by_line None = tt
  by_line (Some place) = by_place place (slice_get code.plan.links place) refl

posted_none : (w : WorldState) (m : Message) (r : Option Route) → None ≡ option_map way_of r → posted w m r ≡ w
posted_none w m None is = refl
posted_none w m (Some r) is = absurd (none-some (way_of r) is)

-- nothing is sent where there is no way for the datagram
pub posts_nothing : (code : World) (node link to : ℕ) (bytes : List ℕ) → IsWay code.plan.links node link to None → Posts code code node link to bytes
posts_nothing code node link to bytes is s w m keeps bytes_are = subst (WorldKeeps code s) (sym (posted_none w m (route_of s node link to) (route_is code s w node link to None keeps is))) keeps

counted : (before after bytes sent : ℕ) → before ≡ min sent most_count → after ≡ min (before + bytes) most_count → after ≡ min (sent + bytes) most_count
counted before after bytes sent was is = omega (arith, was, is)

posted_by : (code : World) (s : Setting) (w : WorldState) (way : Way) (parcel : Parcel) (bytes : List ℕ) (sent : ℕ) (parcels : List Parcel) (m : Message) (r : Option Route) → WorldKeeps code s w → ReachesNode code.plan.nodes r → Some way ≡ option_map way_of r → parcels ≡ code.parcels ++ parcel ∷ []
    → parcel ≡ record { receiver = way.receiver; link = way.link; from = way.from; bytes = bytes } → bytes ≡ encoding m → sent ≡ min (code.sent + length bytes) most_count → WorldKeeps (record code { parcels = parcels; sent = sent }) s (posted w m r)
posted_by code s w way parcel bytes sent parcels m None keeps reaches is more made bytes_are count = absurd (none-some way (sym is))
posted_by code s w way parcel bytes sent parcels m (Some r) keeps reaches is more made bytes_are count =
    let d : SentDatagram = record { route = r; message = m } in
    let same : way ≡ way_of r = same_Some way (way_of r) is in
    let parcel_is : parcel ≡ parcel_of d = made ∙ (ap (λ (x : Way). record { receiver = x.receiver; link = x.link; from = x.from; bytes = bytes }) same ∙ ap (λ (b : List ℕ). record { receiver = r.receiver; link = r.link; from = r.from; bytes = b }) bytes_are) in
    record {
      good = keeps.good;
      setting = keeps.setting;
      count = keeps.count;
      seats = keeps.seats;
      lives = keeps.lives;
      streams = keeps.streams;
      marks = keeps.marks;
      receivers = all_append (GoesToNode code.plan.nodes) w.datagrams (d ∷ []) keeps.receivers (All-cons (GoesToNode code.plan.nodes) d [] reaches (All-nil (GoesToNode code.plan.nodes)));
      parcels = more ∙ (ap (λ (ps : List Parcel). ps ++ parcel ∷ []) keeps.parcels ∙ (ap (λ (p : Parcel). map parcel_of w.datagrams ++ p ∷ []) parcel_is ∙ sym (map-append parcel_of w.datagrams (d ∷ []))));
      places = keeps.places;
      sent = counted code.sent sent (length (encoding m)) w.byte_count keeps.sent (count ∙ ap (λ (b : List ℕ). min (code.sent + length b) most_count) bytes_are);
      goes = keeps.goes;
    }

pub posts_along : (code : World) (node link to : ℕ) (bytes : List ℕ) (way : Way) (parcel : Parcel) (sent : ℕ) (parcels : List Parcel) → IsWay code.plan.links node link to (Some way) → parcels ≡ code.parcels ++ parcel ∷ []
    → parcel ≡ record { receiver = way.receiver; link = way.link; from = way.from; bytes = bytes } → sent ≡ min (code.sent + length bytes) most_count → Posts code (record code { parcels = parcels; sent = sent }) node link to bytes
posts_along code node link to bytes way parcel sent parcels is more made count s w m keeps bytes_are =
    posted_by code s w way parcel bytes sent parcels m (route_of s node link to) keeps (reaches_node code s w node link to keeps) (route_is code s w node link to (Some way) keeps is) more made bytes_are count
