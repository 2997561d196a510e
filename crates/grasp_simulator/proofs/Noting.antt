-- What is remembered of a reply, of which the code keeps the handles.
use Rattle.std.proofs.Common.{◌≡◌, refl, sym, ap, ◌∙◌, ℕ, List, [], ◌∷◌, ◌++◌, map, All}
use Rattle.std.proofs.lemmas.List.{map-append}
use Rattle.std.proofs.lemmas.List.Elements.{All-head, All-tail, All-cons}
use Rattle.grasp_types.specs.declared.call.Call.{Call}
use Rattle.grasp_types.specs.declared.reply.ApiAnswer.{ApiAnswer}
use Rattle.grasp_types.specs.declared.reply.ApiAnswer.TheVariants as answer
use Rattle.grasp_types.specs.declared.reply.Reply.{Reply}
use Rattle.grasp_types.specs.declared.reply.Reply.TheVariants as reply
use Rattle.grasp_model_network.specs.Notes.{handles_in, noted}
use Rattle.grasp_model_network.specs.Setting.{Setting}
use Rattle.grasp_model_network.specs.Visits.{Visit}
use Rattle.grasp_model_network.specs.World.{Offered, WorldState}
use Rattle.grasp_simulator.specs.PlacesStand.{given_place, places_in}
use Rattle.grasp_simulator.specs.WorldStands.{WorldKeeps}
use Rattle.grasp_simulator.specs.declared.places.GivenPlace.{GivenPlace}
use Rattle.grasp_simulator.specs.declared.notes.Notes.{Notes}
use Rattle.grasp_simulator.specs.declared.places.Places.{Places}
use Rattle.grasp_simulator.specs.declared.world.World.{World}

-- the code keeps the place of the handle that the reply gives
answer_places : (v : Visit) (a : ApiAnswer) → map given_place (handles_in v (reply.Api a)) ≡ places_in v.node (reply.Api a)
unfolding handles_in
answer_places v (answer.Asa n) = refl
answer_places v _ = refl

same_places : (v : Visit) (r : Reply) → map given_place (handles_in v r) ≡ places_in v.node r
unfolding handles_in
same_places v (reply.Api a) = answer_places v a
same_places v _ = refl

pub all_append : {A : Type 0} (P : A → Type 0) (xs ys : List A) → All P xs → All P ys → All P (xs ++ ys)
all_append P [] ys h k = k
all_append P (x ∷ xs) ys h k = All-cons P x (xs ++ ys) (All-head P x xs h) (all_append P xs ys (All-tail P x xs h) k)

pub noted_keeps : (code : World) (places : Places) (s : Setting) (w : WorldState) (v : Visit) (asa : ℕ) (call : Call) (r : Reply) → WorldKeeps code s w → places.given ≡ code.places.given ++ places_in v.node r
    → WorldKeeps (record code { places = places }) s (noted w v asa call r)
unfolding noted handles_in
noted_keeps code places s w v asa call r keeps notes = record {
  good = keeps.good;
  setting = keeps.setting;
  count = keeps.count;
  seats = keeps.seats;
  lives = keeps.lives;
  streams = keeps.streams;
  marks = keeps.marks;
  parcels = keeps.parcels;
  receivers = keeps.receivers;
  places = notes ∙ (ap (λ (l : List GivenPlace). l ++ places_in v.node r) keeps.places ∙ (ap (λ (l : List GivenPlace). map given_place w.handles ++ l) (sym (same_places v r)) ∙ sym (map-append given_place w.handles (handles_in v r))));
  sent = keeps.sent;
  goes = keeps.goes;
}

-- the code keeps nothing of offers
pub offers_keep : (code : World) (s : Setting) (w : WorldState) (offers : List Offered) → WorldKeeps code s w → WorldKeeps code s (record w { offers = offers })
offers_keep code s w offers keeps = record {
  good = keeps.good;
  setting = keeps.setting;
  count = keeps.count;
  seats = keeps.seats;
  lives = keeps.lives;
  streams = keeps.streams;
  marks = keeps.marks;
  parcels = keeps.parcels;
  receivers = keeps.receivers;
  places = keeps.places;
  sent = keeps.sent;
  goes = keeps.goes;
}

-- nor of notes
pub notes_keep : (code : World) (s : Setting) (w : WorldState) (notes : Notes) → WorldKeeps code s w → WorldKeeps (record code { notes = notes }) s w
notes_keep code s w notes keeps = record {
  good = keeps.good;
  setting = keeps.setting;
  count = keeps.count;
  seats = keeps.seats;
  lives = keeps.lives;
  streams = keeps.streams;
  marks = keeps.marks;
  parcels = keeps.parcels;
  receivers = keeps.receivers;
  places = keeps.places;
  sent = keeps.sent;
  goes = keeps.goes;
}
