-- The turn and the deadline of a transcript in plain words, whatever the peer sends.
use Rattle.std.proofs.Common.{◌≡◌, ℕ, zero, suc, ◌+◌, ◌%◌, ◌<◌, ◌≤◌, Bool, true, false, cond, List, [], ◌∷◌, ◌⊎◌, inl, inr, Option, Some, None, map, max, length, slice_index_or, refl, sym, ap, ◌∙◌, subst, arith}
use Rattle.std.specs.List.{Contains}
use Rattle.std.proofs.lemmas.Bool.{cases_lt}
use Rattle.grasp_types.specs.Reading.{reading_after}
use Rattle.grasp_types.specs.declared.objective.Objective.{Objective}
use Rattle.grasp_types.specs.declared.session.Kind.{Kind}
use Rattle.grasp_types.specs.declared.session.Kind.TheVariants.{Negotiation, Synchronization}
use Rattle.grasp_types.specs.declared.message.Message.{Message}
use Rattle.grasp_types.specs.declared.message.Message.TheVariants.{ReqNeg, Negotiate, Wait, End, Synch, Invalid}
use Rattle.grasp_session.specs.declared.answer.Received.{Received}
use Rattle.grasp_session.specs.declared.answer.Received.TheVariants.{Kept, Ignored, Bad}
use Rattle.grasp_session.specs.declared.answer.SessionRefused.{SessionRefused}
use Rattle.grasp_session.specs.Messages.{Side, other}
use Rattle.grasp_session.specs.Conversation.{steps, turn}
use Rattle.grasp_session.specs.Transcript.{Entry, Mark, Faulty, Transcript, known, is_going, deadline_from, opening, Saying, SayStep, SayWait, SayEnd, SayInvalid, refusal, act_of, having_said, after_said, receive, receive_going, with_kept, after_heard, with_mark, marked, Deed, Does, Gets, Suffers, after_deed, after_deeds}
use Rattle.grasp_session.specs.Made.{IsBuilt}
use Rattle.grasp_laws_session.specs.InWords.{TurnIsParity, TurnsAreParity, since_wait, lasts_to, IsLargest, DeadlinesAreLargest}
use Rattle.grasp_laws_session.proofs.Bounds.{going_test}

-- what holds of each opening and is kept by each thing that is said, kept or marked
pub record KeptByDeeds (P : Transcript → Type 0) : Type 0 where
  pub opens : (kind : Kind) (role : Side) (timeout now session : ℕ) (o : Objective) → P (opening kind role timeout now session o)
  pub says : (v : Transcript) (now : ℕ) (s : Saying) → P v → P (having_said v now s)
  pub hears : (v : Transcript) (now : ℕ) (m : Message) → receive_going v m ≡ Kept → P v → P (with_kept v now m)
  pub marks : (v : Transcript) (mark : Mark) → P v → P (with_mark v mark)

module _ (P : Transcript → Type 0) (k : KeptByDeeds P) where
  by_said : (v : Transcript) (now : ℕ) (s : Saying) (c : Option SessionRefused) → P v → P (after_said v now s c)
  by_said v now s None p = k.says v now s p
  by_said v now s (Some refused) p = p

  by_heard : (v : Transcript) (now : ℕ) (m : Message) (r : Received) → receive v m ≡ r → P v → P (after_heard v now m r)
  by_heard v now m Kept e p = k.hears v now m (going_test (is_going v) (receive_going v m) e) p
  by_heard v now m Ignored e p = p
  by_heard v now m Bad e p = k.marks v Faulty p

  by_mark : (v : Transcript) (mark : Mark) → P v → P (marked v mark)
  by_mark v mark p = by_test (is_going v) where
    by_test : (b : Bool) → P (cond b (with_mark v mark) v)
    by_test true = k.marks v mark p
    by_test false = p

  by_deed : (v : Transcript) (d : Deed) → P v → P (after_deed v d)
  by_deed v (Does now s) p = by_said v now s (refusal v (act_of s)) p
  by_deed v (Gets now m) p = by_heard v now m (receive v m) refl p
  by_deed v (Suffers mark) p = by_mark v mark p

  by_deeds : (v : Transcript) (ds : List Deed) → P v → P (after_deeds v ds)
  by_deeds v [] p = p
  by_deeds v (d ∷ ds) p = by_deeds (after_deed v d) ds (by_deed v d p)

  pub by_built : (v : Transcript) → IsBuilt v → P v
  by_built v b =
      subst P (sym b.built)
      (by_deeds (opening b.kind b.role b.timeout b.now b.session b.objective) b.deeds (k.opens b.kind b.role b.timeout b.now b.session b.objective))

-- the turn
parity_step : (v w : Transcript) → steps (known w) ≡ steps (known v) + 1 → turn (known w) ≡ other (turn (known v)) → TurnIsParity v → TurnIsParity w
parity_step v w e f p = record {
  even = λ h. let o : steps (known v) % 2 ≡ 1 = omega (arith, e, h) in f ∙ ap other (p.odd o);
  odd = λ h. let o : steps (known v) % 2 ≡ 0 = omega (arith, e, h) in f ∙ ap other (p.even o);
}

parity_same : (v w : Transcript) → steps (known w) ≡ steps (known v) → turn (known w) ≡ turn (known v) → TurnIsParity v → TurnIsParity w
parity_same v w e f p = record { even = λ h. f ∙ p.even (ap (λ n. n % 2) (sym e) ∙ h); odd = λ h. f ∙ p.odd (ap (λ n. n % 2) (sym e) ∙ h) }

parity_opens : (kind : Kind) (role : Side) (timeout now session : ℕ) (o : Objective) → TurnIsParity (opening kind role timeout now session o)
parity_opens Negotiation role timeout now session o = record { even = λ h. refl; odd = λ h. absurd (cc) }
parity_opens Synchronization role timeout now session o = record { even = λ h. refl; odd = λ h. absurd (cc) }

parity_says : (v : Transcript) (now : ℕ) (s : Saying) → TurnIsParity v → TurnIsParity (having_said v now s)
parity_says v now (SayStep value) p = parity_step v (having_said v now (SayStep value)) refl refl p
parity_says v now (SayWait millis) p = parity_same v (having_said v now (SayWait millis)) refl refl p
parity_says v now (SayEnd verdict) p = parity_same v (having_said v now (SayEnd verdict)) refl refl p
parity_says v now (SayInvalid detail) p = parity_same v (having_said v now (SayInvalid detail)) refl refl p

parity_hears : (v : Transcript) (now : ℕ) (m : Message) → receive_going v m ≡ Kept → TurnIsParity v → TurnIsParity (with_kept v now m)
parity_hears v now (ReqNeg n o) e p = absurd (cc)
parity_hears v now (Negotiate n o) e p = parity_step v (with_kept v now (Negotiate n o)) refl refl p
parity_hears v now (Wait n t) e p = parity_same v (with_kept v now (Wait n t)) refl refl p
parity_hears v now (End n d) e p = parity_same v (with_kept v now (End n d)) refl refl p
parity_hears v now (Synch n o) e p = parity_same v (with_kept v now (Synch n o)) refl refl p
parity_hears v now (Invalid n d) e p = parity_same v (with_kept v now (Invalid n d)) refl refl p
parity_hears v now m e p = absurd (cc)

pub turns_parity : TurnsAreParity
turns_parity v b =
    by_built TurnIsParity
    (record { opens = parity_opens; says = parity_says; hears = parity_hears; marks = λ v mark p. record { even = p.even; odd = p.odd } }) v b

-- the deadline
abbrev Largest : ℕ → List Entry → Type 0
Largest timeout es = IsLargest (deadline_from timeout es) (map (lasts_to timeout) (since_wait es))

largest_alone : (n : ℕ) → IsLargest n (n ∷ [])
largest_alone n = record { one = (zero, omega arith, refl); covers = λ k d h. covers k d h } where
  covers : (k d : ℕ) → k < length (n ∷ []) → slice_index_or (n ∷ []) k d ≤ n
  covers zero d h = omega arith
  covers (suc k) d h = absurd (omega (arith, h))

largest_more : (n m : ℕ) (ns : List ℕ) → IsLargest n ns → IsLargest (max n m) (m ∷ ns)
largest_more n m ns l = record { one = by_order (cases n m); covers = λ k d h. covers k d h } where
  cases : (n m : ℕ) → (max n m ≡ m) ⊎ (max n m ≡ n)
  cases n m = by_test (cases_lt n m) where
    by_test : (n < m) ⊎ (m ≤ n) → (max n m ≡ m) ⊎ (max n m ≡ n)
    by_test (inl h) = inl (omega (arith, h))
    by_test (inr h) = inr (omega (arith, h))

  by_order : (max n m ≡ m) ⊎ (max n m ≡ n) → Contains (m ∷ ns) (max n m)
  by_order (inl e) = (zero, omega arith, sym e)
  by_order (inr e) = subst (λ k. Contains (m ∷ ns) k) (sym e) (suc l.one.0, omega (arith, l.one.1), l.one.2)

  covers : (k d : ℕ) → k < length (m ∷ ns) → slice_index_or (m ∷ ns) k d ≤ max n m
  covers zero d h = omega arith
  covers (suc k) d h = let c = l.covers k d (omega (arith, h)) in omega (arith, c)

largest_first : (timeout : ℕ) (e : Entry) → Largest timeout (e ∷ [])
largest_first timeout e = by_message e.message where
  by_message : (m : Message) → Largest timeout (record { sent = e.sent; message = m; at = e.at } ∷ [])
  by_message (Wait n t) = subst (λ k. IsLargest k (reading_after e.at t ∷ [])) (omega arith) (largest_alone (reading_after e.at t))
  by_message m = largest_alone (reading_after e.at timeout)

largest_next : (timeout : ℕ) (e f : Entry) (es : List Entry) → Largest timeout (f ∷ es) → Largest timeout (e ∷ f ∷ es)
largest_next timeout e f es l = by_message e.message where
  by_message : (m : Message) → Largest timeout (record { sent = e.sent; message = m; at = e.at } ∷ f ∷ es)
  by_message (Wait n t) = largest_more (deadline_from timeout (f ∷ es)) (reading_after e.at t) (map (lasts_to timeout) (since_wait (f ∷ es))) l
  by_message m = largest_alone (reading_after e.at timeout)

largest : (timeout : ℕ) (e : Entry) (es : List Entry) → Largest timeout (e ∷ es)
largest timeout e [] = largest_first timeout e
largest timeout e (f ∷ es) = largest_next timeout e f es (largest timeout f es)

abbrev some_entry : List Entry → Bool
some_entry [] = false
some_entry (e ∷ es) = true

abbrev HasSome : Transcript → Type 0
HasSome v = some_entry v.entries ≡ true

largest_some : (timeout : ℕ) (es : List Entry) → some_entry es ≡ true → Largest timeout es
largest_some timeout [] e = absurd (cc)
largest_some timeout (f ∷ es) e = largest timeout f es

pub deadlines_largest : DeadlinesAreLargest
deadlines_largest v b =
    largest_some v.timeout v.entries
    (by_built HasSome (record { opens = λ kind role timeout now session o. refl; says = λ v now s p. refl; hears = λ v now m e p. refl; marks = λ v mark p. p }) v b)
