-- While the turn is a side's own and it says nothing, the conversation stays as it is, and so does what the side knows.
use Rattle.std.proofs.Common.{◌≡◌, ◌≢◌, ◌≤◌, ℕ, Bool, true, false, cond, List, [], ◌∷◌, ◌⊎◌, inl, inr, Option, Some, None, length, refl, sym, ap, ◌∙◌, subst, arith}
use Rattle.std.proofs.lemmas.Option.{none-some, same_Some}
use Rattle.grasp_types.specs.declared.message.Message.{Message}
use Rattle.grasp_laws_session.proofs.Growing.{Adds, Grown, moved_grown}
use Rattle.grasp_laws_session.proofs.Reaching.{move_reaches}
use Rattle.grasp_laws_session.proofs.Standing.{known_holds}
use Rattle.grasp_laws_session.proofs.Turns.{turns_hold, adds_side}
use Rattle.grasp_laws_session.proofs.Views.{same_side}
use Rattle.grasp_session.proofs.Facts.{hears_other, marks_other, says_at_other, opens_near, refuses_near, requests_far}
use Rattle.grasp_session.specs.Conversation.{Said, strip, turn, spoken}
use Rattle.grasp_session.specs.Messages.{Side, Near, Far, is_side}
use Rattle.grasp_session.specs.Talk.{Cause, mark_of, Stage, Present, Talk, party, Move, Requests, OpensFar, RefusesFar, Says, Hears, Marks, requests, opens, refuses, says_checked, says_at, hears_next, marks_at, moved, run, Reached}
use Rattle.grasp_session.specs.Transcript.{Transcript, known, Saying, act_of, refusal, having_said, receive, after_heard, marked}
use Rattle.grasp_laws_session.specs.Turns.{said_by}
use Rattle.grasp_session.specs.declared.answer.SessionRefused.{SessionRefused}

-- ---- an end with a session keeps it

abbrev HasSession : Stage → Type 0
HasSession s = (v : Transcript) × (s ≡ Present v)

says_own : (t : Talk) (side : Side) (now : ℕ) (sg : Saying) (v : Transcript) (c : Option SessionRefused) → (party t side).stage ≡ Present v → HasSession (party (says_checked t side now sg v c) side).stage
says_own t Near now sg v None e = (having_said v now sg, refl)
says_own t Far now sg v None e = (having_said v now sg, refl)
says_own t side now sg v (Some refused) e = (v, e)

hears_own : (t : Talk) (side : Side) (now : ℕ) (v : Transcript) (inbox : List Message) → (party t side).stage ≡ Present v → HasSession (party (hears_next t side now (Present v) inbox) side).stage
hears_own t side now v [] e = (v, e)
hears_own t Near now v (m ∷ left) e = (after_heard v now m (receive v m), refl)
hears_own t Far now v (m ∷ left) e = (after_heard v now m (receive v m), refl)

marks_own : (t : Talk) (side : Side) (cause : Cause) (v : Transcript) → HasSession (party (marks_at t side cause (Present v)) side).stage
marks_own t Near cause v = (marked v (mark_of cause), refl)
marks_own t Far cause v = (marked v (mark_of cause), refl)

present_stays : (t : Talk) (m : Move) (side : Side) (v : Transcript) → (party t side).stage ≡ Present v → HasSession (party (moved t m) side).stage
present_stays t (Requests now timeout session o) Near v e = (v, ap (λ s. (requests t now timeout session o s).near.stage) e ∙ e)
present_stays t (Requests now timeout session o) Far v e = (v, requests_far t now timeout session o t.near.stage ∙ e)
present_stays t (OpensFar now timeout) Near v e = (v, opens_near t now timeout t.far.stage ∙ e)
present_stays t (OpensFar now timeout) Far v e = (v, ap (λ s. (opens t now timeout s).far.stage) e ∙ e)
present_stays t (RefusesFar reason) Near v e = (v, refuses_near t reason t.far.stage ∙ e)
present_stays t (RefusesFar reason) Far v e = (v, ap (λ s. (refuses t reason s).far.stage) e ∙ e)
present_stays t (Says Near now sg) Near v e = subst (λ s. HasSession (says_at t Near now sg s).near.stage) (sym e) (says_own t Near now sg v (refusal v (act_of sg)) e)
present_stays t (Says Near now sg) Far v e = (v, says_at_other t Near now sg t.near.stage ∙ e)
present_stays t (Says Far now sg) Near v e = (v, says_at_other t Far now sg t.far.stage ∙ e)
present_stays t (Says Far now sg) Far v e = subst (λ s. HasSession (says_at t Far now sg s).far.stage) (sym e) (says_own t Far now sg v (refusal v (act_of sg)) e)
present_stays t (Hears Near now) Near v e = subst (λ s. HasSession (hears_next t Near now s t.near.inbox).near.stage) (sym e) (hears_own t Near now v t.near.inbox e)
present_stays t (Hears Near now) Far v e = (v, hears_other t Near now t.near.stage t.near.inbox ∙ e)
present_stays t (Hears Far now) Near v e = (v, hears_other t Far now t.far.stage t.far.inbox ∙ e)
present_stays t (Hears Far now) Far v e = subst (λ s. HasSession (hears_next t Far now s t.far.inbox).far.stage) (sym e) (hears_own t Far now v t.far.inbox e)
present_stays t (Marks Near cause) Near v e = subst (λ s. HasSession (marks_at t Near cause s).near.stage) (sym e) (marks_own t Near cause v)
present_stays t (Marks Near cause) Far v e = (v, marks_other t Near cause t.near.stage ∙ e)
present_stays t (Marks Far cause) Near v e = (v, marks_other t Far cause t.far.stage ∙ e)
present_stays t (Marks Far cause) Far v e = subst (λ s. HasSession (marks_at t Far cause s).far.stage) (sym e) (marks_own t Far cause v)

-- ---- how much a side has said

longer_not : (m : Message) (l : List Message) → m ∷ l ≡ l → ⊥
longer_not m l e = let f : length (m ∷ l) ≡ length l = ap (λ (k : List Message). length k) e in omega (arith, f)

grown_said : (side : Side) (P : Said → Type 0) (old new : List Said) → Grown P old new → length (spoken side old) ≤ length (spoken side new)
grown_said side P old new (inl e) = same_length (ap (λ c. length (spoken side c)) e) where
  same_length : length (spoken side new) ≡ length (spoken side old) → length (spoken side old) ≤ length (spoken side new)
  same_length h = omega arith
grown_said side P old new (inr p) = subst (λ c. length (spoken side old) ≤ length (spoken side c)) (sym p.1) (one_more (is_side side p.0.side)) where
  one_more : (b : Bool) → length (spoken side old) ≤ length (cond b (p.0.message ∷ spoken side old) (spoken side old))
  one_more true = omega arith
  one_more false = omega arith

run_said_more : (ms : List Move) (t : Talk) (side : Side) → length (spoken side t.said) ≤ length (spoken side (run t ms).said)
run_said_more [] t side = omega arith
run_said_more (m ∷ ms) t side =
    let a : length (spoken side t.said) ≤ length (spoken side (moved t m).said) = grown_said side (Adds m) t.said (moved t m).said (moved_grown t m) in
    let b : length (spoken side (moved t m).said) ≤ length (spoken side (run (moved t m) ms).said) = run_said_more ms (moved t m) side in
    omega (arith, a, b)

-- where a side says nothing in a run of moves, it says nothing by the first of them
first_quiet : (m : Move) (ms : List Move) (t : Talk) (side : Side) → spoken side (run (moved t m) ms).said ≡ spoken side t.said → spoken side (moved t m).said ≡ spoken side t.said
first_quiet m ms t side e = by_grown (moved_grown t m) where
  most : length (spoken side (moved t m).said) ≤ length (spoken side t.said)
  most =
      let a : length (spoken side (moved t m).said) ≤ length (spoken side (run (moved t m) ms).said) = run_said_more ms (moved t m) side in
      let b : length (spoken side (run (moved t m) ms).said) ≡ length (spoken side t.said) = ap (λ (k : List Message). length k) e in
      omega (arith, a, b)

  by_side : (x : Said) → (moved t m).said ≡ x ∷ t.said → (b : Bool) → is_side side x.side ≡ b → length (cond b (x.message ∷ spoken side t.said) (spoken side t.said)) ≤ length (spoken side t.said)
      → cond b (x.message ∷ spoken side t.said) (spoken side t.said) ≡ spoken side t.said
  by_side x f true is h = absurd (too_long (spoken side t.said) h) where
    too_long : (l : List Message) → length (x.message ∷ l) ≤ length l → ⊥
    too_long l k = omega arith
  by_side x f false is h = refl

  by_grown : Grown (Adds m) t.said (moved t m).said → spoken side (moved t m).said ≡ spoken side t.said
  by_grown (inl f) = ap (λ c. spoken side c) f
  by_grown (inr p) =
      ap (λ c. spoken side c) p.1
      ∙ by_side p.0 p.1 (is_side side p.0.side) refl (subst (λ c. length (spoken side c) ≤ length (spoken side t.said)) p.1 most)

-- ---- a move of the side itself by which it says nothing

near_far : Some Near ≡ Some Far → ⊥
near_far e = cc

far_near : Some Far ≡ Some Near → ⊥
far_near e = cc

says_quiet : (t : Talk) (side : Side) (now : ℕ) (sg : Saying) (v : Transcript) (c : Option SessionRefused) → spoken side (says_checked t side now sg v c).said ≡ spoken side t.said → says_checked t side now sg v c ≡ t
says_quiet t Near now sg v None e = absurd (longer_not _ (spoken Near t.said) e)
says_quiet t Far now sg v None e = absurd (longer_not _ (spoken Far t.said) e)
says_quiet t side now sg v (Some refused) e = refl

says_at_quiet : (t : Talk) (side : Side) (now : ℕ) (sg : Saying) (v : Transcript) → (party t side).stage ≡ Present v → spoken side (says_at t side now sg (party t side).stage).said ≡ spoken side t.said
    → says_at t side now sg (party t side).stage ≡ t
says_at_quiet t side now sg v e quiet =
    let at : says_at t side now sg (party t side).stage ≡ says_checked t side now sg v (refusal v (act_of sg)) = ap (λ s. says_at t side now sg s) e in
    at ∙ says_quiet t side now sg v (refusal v (act_of sg)) (sym (ap (λ (x : Talk). spoken side x.said) at) ∙ quiet)

own_quiet : (t : Talk) (m : Move) (side : Side) (v : Transcript) → (party t side).stage ≡ Present v → said_by m ≡ Some side → spoken side (moved t m).said ≡ spoken side t.said → moved t m ≡ t
own_quiet t (Requests now timeout session o) Near v e f quiet = ap (λ s. requests t now timeout session o s) e
own_quiet t (Requests now timeout session o) Far v e f quiet = absurd (near_far f)
own_quiet t (RefusesFar reason) Near v e f quiet = absurd (far_near f)
own_quiet t (RefusesFar reason) Far v e f quiet = ap (λ s. refuses t reason s) e
own_quiet t (Says k now sg) side v e f quiet = by_side k (same_Some k side f) quiet where
  by_side : (j : Side) → j ≡ side → spoken side (says_at t j now sg (party t j).stage).said ≡ spoken side t.said → says_at t j now sg (party t j).stage ≡ t
  by_side j same h =
      subst (λ i. spoken side (says_at t i now sg (party t i).stage).said ≡ spoken side t.said → says_at t i now sg (party t i).stage ≡ t) (sym same) (λ x. says_at_quiet t side now sg v e x) h
own_quiet t _ side v e f quiet = absurd (none-some side f)

sides_tell : (o : Option Side) (side : Side) → (o ≡ Some side) ⊎ (o ≢ Some side)
sides_tell None side = inr (λ e. none-some side e)
sides_tell (Some Near) Near = inl refl
sides_tell (Some Near) Far = inr near_far
sides_tell (Some Far) Near = inr far_near
sides_tell (Some Far) Far = inl refl

-- ---- runs

first_strip : (m : Move) (t : Talk) (side : Side) → Reached t → turn (strip t.said) ≡ side → spoken side (moved t m).said ≡ spoken side t.said → strip (moved t m).said ≡ strip t.said
first_strip m t side r here quiet = by_sayer (sides_tell (said_by m) side) where
  by_grown : said_by m ≡ Some side → Grown (Adds m) t.said (moved t m).said → strip (moved t m).said ≡ strip t.said
  by_grown own (inl e) = ap strip e
  by_grown own (inr p) =
      let same : p.0.side ≡ side = same_Some p.0.side side (sym (adds_side m p.0 p.2) ∙ own) in
      absurd (own_longer p.0 same (sym (ap (λ c. spoken side c) p.1) ∙ quiet)) where
        own_longer : (x : Said) → x.side ≡ side → cond (is_side side x.side) (x.message ∷ spoken side t.said) (spoken side t.said) ≡ spoken side t.said → ⊥
        own_longer x same e =
            longer_not x.message (spoken side t.said) (sym (ap (λ b. cond b (x.message ∷ spoken side t.said) (spoken side t.said)) (ap (λ s. is_side side s) same ∙ same_side side)) ∙ e)

  by_sayer : (said_by m ≡ Some side) ⊎ (said_by m ≢ Some side) → strip (moved t m).said ≡ strip t.said
  by_sayer (inl own) = by_grown own (moved_grown t m)
  by_sayer (inr out) = turns_hold t r m side here out

pub run_said : (ms : List Move) (t : Talk) (side : Side) → Reached t → turn (strip t.said) ≡ side → spoken side (run t ms).said ≡ spoken side t.said → strip (run t ms).said ≡ strip t.said
run_said [] t side r here quiet = refl
run_said (m ∷ ms) t side r here quiet =
    let first : spoken side (moved t m).said ≡ spoken side t.said = first_quiet m ms t side quiet in
    let same : strip (moved t m).said ≡ strip t.said = first_strip m t side r here first in
    run_said ms (moved t m) side (move_reaches t m r) (ap turn same ∙ here) (quiet ∙ sym first) ∙ same

pub run_known : (ms : List Move) (t : Talk) (side : Side) (v x : Transcript) → Reached t → (party t side).stage ≡ Present v → (party (run t ms) side).stage ≡ Present x → turn (known v) ≡ side
    → spoken side (run t ms).said ≡ spoken side t.said → known x ≡ known v
run_known [] t side v x r e f mine quiet = ap known (same_present (party t side).stage x v f e) where
  same_present : (s : Stage) (a b : Transcript) → s ≡ Present a → s ≡ Present b → a ≡ b
  same_present s a b j k = cc
run_known (m ∷ ms) t side v x r e f mine quiet = by_sayer (λ y j n. run_known ms (moved t m) side y x (move_reaches t m r) j f n (quiet ∙ sym first)) (sides_tell (said_by m) side) where
  first : spoken side (moved t m).said ≡ spoken side t.said
  first = first_quiet m ms t side quiet

  by_sayer : ((y : Transcript) → (party (moved t m) side).stage ≡ Present y → turn (known y) ≡ side → known x ≡ known y) → (said_by m ≡ Some side) ⊎ (said_by m ≢ Some side) → known x ≡ known v
  by_sayer rest (inl own) = rest v (ap (λ (z : Talk). (party z side).stage) (own_quiet t m side v e own first) ∙ e) mine
  by_sayer rest (inr out) =
      let p = present_stays t m side v e in
      let same : known p.0 ≡ known v = known_holds t r m side v p.0 e p.1 mine out in
      rest p.0 p.1 (ap turn same ∙ mine) ∙ same
