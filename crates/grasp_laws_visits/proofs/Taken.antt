-- An order of a visitor that is no guest is taken.
use Rattle.std.proofs.Common.{◌≡◌, refl, sym, ap, ◌∙◌, ◌⊎◌, inl, inr, ℕ, ◌+◌, ◌-◌, ◌<◌, ◌≤◌, ◌&&◌, ◌++◌, Bool, true, false, cond, List, [], ◌∷◌, length, Option, arith}
use Rattle.std.proofs.lemmas.Bool.{le-leb, leb-false, ltb-false, ltb-true, leb-true}
use Rattle.std.specs.Prelude.{codes, decimal, nat_le, nat_lt}
use Rattle.grasp_config.specs.declared.level.LogLevel.{LogLevel}
use Rattle.grasp_control.specs.Answers.{plain_words}
use Rattle.grasp_control.specs.declared.answers.PlainAnswer.{PlainAnswer}
use Rattle.grasp_control.specs.declared.answers.PlainAnswer.TheVariants as plain
use Rattle.grasp_control.specs.declared.request.Request.{Request}
use Rattle.grasp_control.specs.declared.request.Request.TheVariants as request
use Rattle.grasp_crew.specs.Nudges.{Wanted}
use Rattle.grasp_crew.specs.Seats.{SeatState, without_await}
use Rattle.grasp_crew.specs.Steward.{StewardState, tries_with, with_want, without_want}
use Rattle.grasp_crew.specs.Trying.{dropped, untried}
use Rattle.grasp_crew.specs.declared.servant.Servant.{Servant}
use Rattle.grasp_crew.specs.declared.servant.Servant.TheVariants.{Steward}
use Rattle.grasp_desk.specs.declared.desk.Visiting.TheVariants as desk
use Rattle.grasp_laws_visits.proofs.Guests.{told_plain}
use Rattle.grasp_laws_visits.specs.Taken.{ComesTo, Orders, OrdersAreTaken, house_with}
use Rattle.grasp_service_visits.specs.Serving.{HouseState, answer_to, are_lengths, house_ordered, is_order, is_want, most_wants, order_answer, unwant_answer, want_answer, wants_added, wants_dropped, with_want_of, without_want_of}
use Rattle.grasp_service_visits.specs.Visits.{Meaning, Said, house_heard, house_visited, said_answer, said_house}
use Rattle.grasp_service_visits.specs.declared.answer.Answer.TheVariants.{Plain}

-- ---- an order

module _ (seats : List SeatState) (h : HouseState) (visitor : ℕ) (line : List ℕ) (said : Said) (s : SeatState) (q : Request) (o : Orders seats visitor line said s q) where
  house_is : is_order q ≡ true → house_visited seats h (desk.Line visitor line) said ≡ house_ordered h q
  house_is order =
      ap (λ (x : Option SeatState). house_heard x h said.meaning) o.sits
      ∙ (ap (λ (m : Meaning). said_house (without_await s) h m) o.meaning
      ∙ (ap (λ (b : Bool). cond b (cond s.guest h (house_ordered h q)) h) order
      ∙ ap (λ (g : Bool). cond g h (house_ordered h q)) o.no_guest))

  -- it comes to this, where it is answered so
  comes_to : (new : HouseState) (p : PlainAnswer) → is_order q ≡ true → house_ordered h q ≡ new
      → answer_to h.crew (without_await s) q said.reply ≡ cond s.guest (Plain plain.Denied) (order_answer h.crew q) → order_answer h.crew q ≡ Plain p
      → ComesTo seats h visitor line said s new (plain_words p)
  comes_to new p order is answers answer = record {
    house = house_is order ∙ is;
    told =
        told_plain h.crew new.crew seats visitor line said s p o.sits
        (ap (λ (m : Meaning). said_answer h.crew (without_await s) m said.reply) o.meaning
        ∙ (answers ∙ (ap (λ (g : Bool). cond g (Plain plain.Denied) (order_answer h.crew q)) o.no_guest ∙ answer)));
  }

-- ---- to end, and how much is logged

stop : (seats : List SeatState) (h : HouseState) (visitor : ℕ) (line : List ℕ) (said : Said) (s : SeatState) → Orders seats visitor line said s request.Stop
    → ComesTo seats h visitor line said s (record h { stopping = true }) (codes "done" ∷ [])
stop seats h visitor line said s o = comes_to seats h visitor line said s request.Stop o (record h { stopping = true }) plain.Done refl refl refl refl

level_is : (seats : List SeatState) (h : HouseState) (visitor : ℕ) (line : List ℕ) (said : Said) (s : SeatState) (level : LogLevel)
    → Orders seats visitor line said s (request.Log level) → ComesTo seats h visitor line said s (record h { level = level }) (codes "done" ∷ [])
level_is seats h visitor line said s level o =
    comes_to seats h visitor line said s (request.Log level) o (record h { level = level }) plain.Done refl refl refl refl

-- ---- wants

both : (a b : Bool) → a ≡ true → b ≡ true → (a && b) ≡ true
both a b e f = ap (λ (x : Bool). x && b) e ∙ f

in_order : (w : Wanted) → (1 ≤ w.length) × (w.length ≤ w.longest) × (w.longest ≤ 128) → are_lengths w.length w.longest ≡ true
in_order w r =
    ap (λ (x : Bool). (x && nat_le w.length w.longest) && nat_le w.longest 128) (le-leb 1 w.length r.0)
    ∙ (ap (λ (x : Bool). x && nat_le w.longest 128) (le-leb w.length w.longest r.1) ∙ le-leb w.longest 128 r.2)

module _ (seats : List SeatState) (h : HouseState) (visitor : ℕ) (line : List ℕ) (said : Said) (s : SeatState) (w : Wanted) (m : StewardState) (crew : List Servant)
    (o : Orders seats visitor line said s (request.Want w.length w.longest w.peer)) (is : h.crew ≡ Steward m ∷ crew) where
  abbrev q : Request
  q = request.Want w.length w.longest w.peer

  in_range : are_lengths w.length w.longest ≡ true
  in_range = in_order w (o.written.ranges.0, o.written.ranges.1, o.written.ranges.2)

  adds_it : house_ordered h q ≡ record h { crew = wants_added (Steward m ∷ crew) w }
  adds_it =
      ap (λ (b : Bool). cond b (record h { crew = wants_added h.crew w }) h) in_range
      ∙ ap (λ (c : List Servant). record h { crew = wants_added c w }) is

  answers_it : order_answer h.crew q ≡ want_answer (Steward m ∷ crew)
  answers_it = ap (λ (b : Bool). cond b (want_answer h.crew) (Plain plain.Denied)) in_range ∙ ap want_answer is

  by_room : (b : Bool) → nat_lt (length m.wants) most_wants ≡ b
      → ((length m.wants < 256) × ComesTo seats h visitor line said s
      (house_with h (record m { wants = m.wants ++ w ∷ []; tries = m.tries ++ untried m.pace ∷ [] }) crew) (codes "ok" ∷ decimal (length m.wants + 1) ∷ []))
      ⊎ ((256 ≤ length m.wants) × ComesTo seats h visitor line said s h (codes "full" ∷ []))
  by_room true e =
      inl (
        ltb-true (length m.wants) 256 e,
        comes_to seats h visitor line said s q o (house_with h (with_want m w) crew) (plain.Taken (length m.wants + 1)) refl
            (adds_it ∙ ap (λ (b : Bool). record h { crew = cond b (with_want_of (Steward m ∷ crew) w) (Steward m ∷ crew) }) e) refl
            (answers_it ∙ ap (λ (b : Bool). cond b (Plain (plain.Taken (length m.wants + 1))) (Plain plain.Full)) e),
      )
  by_room false e =
      inr (
        ltb-false (length m.wants) 256 e,
        comes_to seats h visitor line said s q o h plain.Full refl
            (adds_it
            ∙ (ap (λ (b : Bool). record h { crew = cond b (with_want_of (Steward m ∷ crew) w) (Steward m ∷ crew) }) e ∙ ap (λ (c : List Servant). record h { crew = c }) (sym is)))
            refl (answers_it ∙ ap (λ (b : Bool). cond b (Plain (plain.Taken (length m.wants + 1))) (Plain plain.Full)) e),
      )

  want_is : ((length m.wants < 256) × ComesTo seats h visitor line said s
      (house_with h (record m { wants = m.wants ++ w ∷ []; tries = m.tries ++ untried m.pace ∷ [] }) crew) (codes "ok" ∷ decimal (length m.wants + 1) ∷ []))
      ⊎ ((256 ≤ length m.wants) × ComesTo seats h visitor line said s h (codes "full" ∷ []))
  want_is = by_room (nat_lt (length m.wants) most_wants) refl

module _ (seats : List SeatState) (h : HouseState) (visitor : ℕ) (line : List ℕ) (said : Said) (s : SeatState) (number : ℕ) (m : StewardState) (crew : List Servant)
    (o : Orders seats visitor line said s (request.Unwant number)) (is : h.crew ≡ Steward m ∷ crew) where
  drops_it : house_ordered h (request.Unwant number) ≡ record h { crew = wants_dropped (Steward m ∷ crew) number }
  drops_it = ap (λ (c : List Servant). record h { crew = wants_dropped c number }) is

  says_it : order_answer h.crew (request.Unwant number) ≡ unwant_answer (Steward m ∷ crew) number
  says_it = ap (λ (c : List Servant). unwant_answer c number) is

  abbrev Ends : Type 0
  Ends = ((1 ≤ number) × (number ≤ length m.wants) × ComesTo seats h visitor line said s
      (house_with h (record m { tries = tries_with dropped m.tries (number - 1) }) crew) (codes "done" ∷ []))
      ⊎ (((number ≡ 0) ⊎ (length m.wants < number)) × ComesTo seats h visitor line said s h (codes "nothing" ∷ []))

  there : is_want (Steward m ∷ crew) number ≡ true → ComesTo seats h visitor line said s
      (house_with h (record m { tries = tries_with dropped m.tries (number - 1) }) crew) (codes "done" ∷ [])
  there e =
      comes_to seats h visitor line said s (request.Unwant number) o (house_with h (without_want m (number - 1)) crew) plain.Done refl
      (drops_it ∙ ap (λ (b : Bool). record h { crew = cond b (without_want_of (Steward m ∷ crew) (number - 1)) (Steward m ∷ crew) }) e) refl
      (says_it ∙ ap (λ (b : Bool). cond b (Plain plain.Done) (Plain plain.Nothing)) e)

  nowhere : is_want (Steward m ∷ crew) number ≡ false → ComesTo seats h visitor line said s h (codes "nothing" ∷ [])
  nowhere e =
      comes_to seats h visitor line said s (request.Unwant number) o h plain.Nothing refl
      (drops_it
      ∙ (ap (λ (b : Bool). record h { crew = cond b (without_want_of (Steward m ∷ crew) (number - 1)) (Steward m ∷ crew) }) e ∙ ap (λ (c : List Servant). record h { crew = c }) (sym is)))
      refl (says_it ∙ ap (λ (b : Bool). cond b (Plain plain.Done) (Plain plain.Nothing)) e)

  by_number : (some within : Bool) → nat_lt 0 number ≡ some → nat_le number (length m.wants) ≡ within → Ends
  by_number true true e f =
      inl (
        ltb-true 0 number e,
        leb-true number (length m.wants) f,
        there (both (nat_lt 0 number) (nat_le number (length m.wants)) e f),
      )
  by_number true false e f =
      inr (
        inr (leb-false number (length m.wants) f),
        nowhere (ap (λ (x : Bool). x && nat_le number (length m.wants)) e ∙ f),
      )
  by_number false within e f = inr (inl (none number (ltb-false 0 number e)), nowhere (ap (λ (x : Bool). x && nat_le number (length m.wants)) e)) where
    none : (n : ℕ) → n ≤ 0 → n ≡ 0
    none n least = omega (arith, least)

  unwant_is : Ends
  unwant_is = by_number (nat_lt 0 number) (nat_le number (length m.wants)) refl refl

pub orders_are_taken : OrdersAreTaken
orders_are_taken = record {
  stop = stop;
  level = level_is;
  want = want_is;
  unwant = unwant_is;
}
