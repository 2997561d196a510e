-- How a session ended is read where its words are, and nowhere else.
use Rattle.std.proofs.Common.{◌≡◌, ℕ, List, [], ◌∷◌, ◌++◌, Option, Some, None, Ok, refl, sym, ap, subst, ◌∙◌}
use Rattle.std.specs.Prelude.{IfSome, codes, decimal}
use Rattle.std.specs.Str.{IsUtf8}
use Rattle.std.proofs.lemmas.List.{append-nil}
use Rattle.grasp_types.specs.declared.objective.Objective.{Objective}
use Rattle.grasp_types.specs.declared.session.By.{By}
use Rattle.grasp_types.specs.declared.session.Outcome.{Outcome}
use Rattle.grasp_types.specs.declared.session.Outcome.TheVariants as outcome
use Rattle.grasp_text.specs.Grammar.{ending, reason_at, objective_at}
use Rattle.grasp_text.specs.Line.{text_word, objective_words}
use Rattle.grasp_text.proofs.Lawful.{ok_is}
use Rattle.grasp_text.proofs.Readers.{texts_read, objectives_read}
use Rattle.grasp_script.specs.Answers.{by_word, outcome_words}
use Rattle.grasp_script.proofs.Fields.{taken, ended, after, Means}
use Rattle.grasp_script.proofs.WordReaders.{read64, small64, within64}
use Rattle.grasp_record.specs.Answers.{IsOutcome}
use Rattle.grasp_record.specs.Grammar.{agreed_at, declined_at, synchronized_at, timed_out_at, invalid_at, outcome_at}
use Rattle.grasp_record.specs.declared.names.OutcomeName.{OutcomeName}
use Rattle.grasp_record.specs.declared.names.OutcomeName.TheVariants as end
use Rattle.grasp_record.proofs.NameReaders.{read_by, outcome_word}
use Rattle.grasp_record.proofs.SomeWords.{taken_words, at_end, was_read}

-- an objective's words, and nothing more
pub objective_alone : (o : Objective) → objective_words o ++ [] ≡ objective_words o
objective_alone o = append-nil (objective_words o)

-- ---- a reason

abbrev reason_words : Option (List ℕ) → List (List ℕ)
reason_words None = []
reason_words (Some reason) = text_word reason ∷ []

record Reason (reason : Option (List ℕ)) (ws : List (List ℕ)) : Type 0 where
  utf8 : IfSome reason IsUtf8
  spelled : ws ≡ reason_words reason

reason_only : (ws : List (List ℕ)) (x : Option (List ℕ) × List (List ℕ)) → reason_at ws ≡ Ok x → Reason x.0 ws
reason_only [] x e = subst (λ (y : Option (List ℕ) × List (List ℕ)). Reason y.0 []) (ok_is (None, []) x e) (record { utf8 = tt; spelled = refl })
reason_only (w ∷ ws) x e =
    let a = taken texts_read _ (w ∷ ws) x e in
    let z = ended (Some a.first) a.rest x a.more in
    subst (λ (y : Option (List ℕ)). Reason y (w ∷ ws)) (sym z.value) (record { utf8 = a.is; spelled = after a.parts z.words })

declined_words : (by : By) (reason : Option (List ℕ)) → codes "declined" ∷ by_word by ∷ reason_words reason ≡ outcome_words (outcome.Declined by reason)
declined_words by None = refl
declined_words by (Some reason) = refl

-- ---- only

abbrev pub Ends : List ℕ → Outcome → List (List ℕ) → Type 0
Ends word o ws = Means IsOutcome outcome_words o (word ∷ ws)

agreed_only : (ws : List (List ℕ)) (x : Outcome × List (List ℕ)) → agreed_at ws ≡ Ok x → Ends (codes "agreed") x.0 ws
unfolding agreed_at
agreed_only ws x e =
    let a = taken read_by _ ws x e in
    let b = taken_words objectives_read _ a.rest x a.more in
    let z = ended (outcome.Agreed a.first b.first) b.rest x b.more in
    subst (λ (y : Outcome). Ends (codes "agreed") y ws) (sym z.value) (record { ranges = b.is; spelled = ap (λ (t : List (List ℕ)). codes "agreed" ∷ t) (after a.parts (at_end (objective_words b.first) b.parts z.words)) })

declined_only : (ws : List (List ℕ)) (x : Outcome × List (List ℕ)) → declined_at ws ≡ Ok x → Ends (codes "declined") x.0 ws
unfolding declined_at
declined_only ws x e =
    let a = taken read_by _ ws x e in
    let r = was_read _ (reason_at a.rest) x a.more in
    let m = reason_only a.rest r.first r.is in
    subst (λ (y : Outcome). Ends (codes "declined") y ws) (ap (λ (y : Outcome × List (List ℕ)). y.0) (ok_is (outcome.Declined a.first r.first.0, r.first.1) x r.more)) (record {
      ranges = m.utf8;
      spelled = ap (λ (t : List (List ℕ)). codes "declined" ∷ t) (after a.parts m.spelled) ∙ declined_words a.first r.first.0;
    })

synchronized_only : (ws : List (List ℕ)) (x : Outcome × List (List ℕ)) → synchronized_at ws ≡ Ok x → Ends (codes "synchronized") x.0 ws
unfolding synchronized_at
synchronized_only ws x e =
    let b = taken_words objectives_read _ ws x e in
    let z = ended (outcome.Synchronized b.first) b.rest x b.more in
    subst (λ (y : Outcome). Ends (codes "synchronized") y ws) (sym z.value) (record { ranges = b.is; spelled = ap (λ (t : List (List ℕ)). codes "synchronized" ∷ t) (at_end (objective_words b.first) b.parts z.words) })

timed_out_only : (ws : List (List ℕ)) (x : Outcome × List (List ℕ)) → timed_out_at ws ≡ Ok x → Ends (codes "timedout") x.0 ws
unfolding timed_out_at
timed_out_only ws x e =
    let a = taken read64 _ ws x e in
    let b = taken read64 _ a.rest x a.more in
    let z = ended (outcome.TimedOut a.first b.first) b.rest x b.more in
    subst (λ (y : Outcome). Ends (codes "timedout") y ws) (sym z.value) (record { ranges = (small64 a.is, small64 b.is); spelled = ap (λ (t : List (List ℕ)). codes "timedout" ∷ t) (after a.parts (after b.parts z.words)) })

invalid_only : (ws : List (List ℕ)) (x : Outcome × List (List ℕ)) → invalid_at ws ≡ Ok x → Ends (codes "invalid") x.0 ws
unfolding invalid_at
invalid_only ws x e =
    let a = taken read_by _ ws x e in
    let z = ended (outcome.Invalid a.first) a.rest x a.more in
    subst (λ (y : Outcome). Ends (codes "invalid") y ws) (sym z.value) (record { ranges = tt; spelled = ap (λ (t : List (List ℕ)). codes "invalid" ∷ t) (after a.parts z.words) })

broken_only : (ws : List (List ℕ)) (x : Outcome × List (List ℕ)) → ending outcome.Broken ws ≡ Ok x → Ends (codes "broken") x.0 ws
broken_only ws x e =
    let z = ended outcome.Broken ws x e in
    subst (λ (y : Outcome). Ends (codes "broken") y ws) (sym z.value) (record { ranges = tt; spelled = ap (λ (t : List (List ℕ)). codes "broken" ∷ t) z.words })

pub outcome_only : (n : OutcomeName) (ws : List (List ℕ)) (x : Outcome × List (List ℕ)) → outcome_at n ws ≡ Ok x → Ends (outcome_word n) x.0 ws
outcome_only end.Agreed ws x e = agreed_only ws x e
outcome_only end.Declined ws x e = declined_only ws x e
outcome_only end.Synchronized ws x e = synchronized_only ws x e
outcome_only end.TimedOut ws x e = timed_out_only ws x e
outcome_only end.Broken ws x e = broken_only ws x e
outcome_only end.Invalid ws x e = invalid_only ws x e

-- ---- found

-- an objective's words alone are read as it
pub objective_found : (o : Objective) → IsOutcome (outcome.Synchronized o) → objective_at (objective_words o) ≡ Ok (o, [])
objective_found o h = ap objective_at (sym (objective_alone o)) ∙ objectives_read.found o [] h

agreed_found : (by : By) (o : Objective) → IsOutcome (outcome.Agreed by o) → agreed_at (by_word by ∷ objective_words o) ≡ Ok (outcome.Agreed by o, [])
unfolding agreed_at
agreed_found by o h = rw (read_by.found by tt, objective_found o h) refl

declined_found : (by : By) (reason : Option (List ℕ)) → IfSome reason IsUtf8 → declined_at (by_word by ∷ reason_words reason) ≡ Ok (outcome.Declined by reason, [])
unfolding declined_at
declined_found by None h = rw (read_by.found by tt) refl
declined_found by (Some reason) h = rw (read_by.found by tt, texts_read.found reason h) refl

synchronized_found : (o : Objective) → IsOutcome (outcome.Synchronized o) → synchronized_at (objective_words o) ≡ Ok (outcome.Synchronized o, [])
unfolding synchronized_at
synchronized_found o h = rw (objective_found o h) refl

timed_out_found : (deadline now : ℕ) → IsOutcome (outcome.TimedOut deadline now) → timed_out_at (decimal deadline ∷ decimal now ∷ []) ≡ Ok (outcome.TimedOut deadline now, [])
unfolding timed_out_at
timed_out_found deadline now h = rw (read64.found deadline (within64 h.0), read64.found now (within64 h.1)) refl

invalid_found : (by : By) → invalid_at (by_word by ∷ []) ≡ Ok (outcome.Invalid by, [])
unfolding invalid_at
invalid_found by = rw (read_by.found by tt) refl

-- it is its first word and what stands behind that
pub record EndsAgain (o : Outcome) : Type 0 where
  pub name : OutcomeName
  pub rest : List (List ℕ)
  pub words : outcome_words o ≡ outcome_word name ∷ rest
  pub read : outcome_at name rest ≡ Ok (o, [])

pub outcome_found : (o : Outcome) → IsOutcome o → EndsAgain o
outcome_found (outcome.Agreed by o) h = record { name = end.Agreed; rest = _; words = refl; read = agreed_found by o h }
outcome_found (outcome.Declined by reason) h = record { name = end.Declined; rest = _; words = sym (declined_words by reason); read = declined_found by reason h }
outcome_found (outcome.Synchronized o) h = record { name = end.Synchronized; rest = _; words = refl; read = synchronized_found o h }
outcome_found (outcome.TimedOut deadline now) h = record { name = end.TimedOut; rest = _; words = refl; read = timed_out_found deadline now h }
outcome_found outcome.Broken h = record { name = end.Broken; rest = []; words = refl; read = refl }
outcome_found outcome.OutOfMemory h = absurd h
outcome_found (outcome.Invalid by) h = record { name = end.Invalid; rest = _; words = refl; read = invalid_found by }
