-- An answer to a call, a want or a return is read where its words are, and nowhere else.
use Rattle.std.proofs.Common.{◌≡◌, ℕ, ◌≤◌, ◌<◌, Bool, true, false, eqb, List, [], ◌∷◌, ◌++◌, length, Ok, Err, refl, sym, ap, subst, ◌∙◌, append_assoc, arith}
use Rattle.std.specs.Prelude.{All, codes, decimal}
use Rattle.std.specs.List.{AllByRecursion}
use Rattle.std.proofs.lemmas.Bool.{eqb-true, eq-eqb}
use Rattle.std.proofs.lemmas.List.Elements.{All-from_recursion, All-head, All-tail}
use Rattle.grasp_agent.specs.declared.back.ReturnFault.TheVariants as back
use Rattle.grasp_agent.specs.declared.want.WantFault.TheVariants.{Busy, Full}
use Rattle.grasp_types.specs.Address.{IsLocator}
use Rattle.grasp_types.specs.Message.{AreLocators}
use Rattle.grasp_types.specs.Refusal.{refusal_number, refusal_name}
use Rattle.grasp_types.specs.declared.address.Address.{Address}
use Rattle.grasp_types.specs.declared.address.Locator.{Locator}
use Rattle.grasp_types.specs.declared.address.Locator.TheVariants.{V6, V4, Fqdn, Uri}
use Rattle.grasp_types.specs.declared.flood.FloodRead.{FloodRead}
use Rattle.grasp_types.specs.declared.objective.Objective.{Objective}
use Rattle.grasp_types.specs.declared.refusal.ApiRefused.{ApiRefused}
use Rattle.grasp_types.specs.declared.refusal.ApiRefused.TheVariants as refusal
use Rattle.grasp_types.specs.declared.reply.ApiAnswer.{ApiAnswer}
use Rattle.grasp_types.specs.declared.reply.ApiAnswer.TheVariants as api
use Rattle.grasp_types.specs.declared.session.Handle.{Handle}
use Rattle.grasp_types.specs.declared.session.Outcome.{Outcome}
use Rattle.grasp_types.specs.declared.session.Progress.TheVariants as progress
use Rattle.grasp_types.specs.Prefix.{AddressBlock}
use Rattle.grasp_text.specs.Grammar.{ending, locator_at}
use Rattle.grasp_text.specs.Line.{address_word, prefix_word, objective_words, locator_words, all_locator_words, locator_or_none}
use Rattle.grasp_text.specs.Reading.{Parsed}
use Rattle.grasp_text.proofs.Lawful.{ok_is}
use Rattle.grasp_text.proofs.Readers.{addresses_read, objectives_read, locators_read, optional_locators_read}
use Rattle.grasp_script.specs.Answers.{outcome_words, answer_words, flood_read_words, all_flood_read_words}
use Rattle.grasp_script.proofs.Fields.{taken, ended, after, Means}
use Rattle.grasp_script.proofs.WordReaders.{read8, read32, small8, small32, within8, within32, read_handle, read_prefix}
use Rattle.grasp_record.specs.Answers.{told_words, IsOutcome, IsApiAnswer, IsFloodRead, IsOfCall, IsOfWant, IsOfReturn}
use Rattle.grasp_record.specs.Grammar.{outcome_at, asa_at, started_at, found_at, not_yet, incoming_at, turn_at, ended_at, flood_read_at, each_at, as_floods, refused_at, as_api, answered_at, of_call_at, busy_at, wanted_at, of_want_at, busy_return_at, returned_at, of_return_at}
use Rattle.grasp_record.specs.declared.line.RecordAnswer.{RecordAnswer}
use Rattle.grasp_record.specs.declared.line.RecordAnswer.TheVariants as answer
use Rattle.grasp_record.specs.declared.names.AnswerName.{AnswerName}
use Rattle.grasp_record.specs.declared.names.AnswerName.TheVariants as answered
use Rattle.grasp_record.specs.declared.names.ReturnName.{ReturnName}
use Rattle.grasp_record.specs.declared.names.ReturnName.TheVariants as returned
use Rattle.grasp_record.specs.declared.names.WantName.{WantName}
use Rattle.grasp_record.specs.declared.names.WantName.TheVariants as wanted
use Rattle.grasp_record.proofs.Each.{each_only, each_found}
use Rattle.grasp_record.proofs.InputLaws.{passed}
use Rattle.grasp_record.proofs.NameReaders.{answer_word, answer_again, read_answer, outcome_again, read_outcome, want_word, want_again, read_want, return_word, return_again, read_return, read_refusal}
use Rattle.grasp_record.proofs.OutcomeLaws.{objective_found, outcome_only, outcome_found}
use Rattle.grasp_record.proofs.SomeWords.{IsExact, exact, taken_words, behind, at_end, was_read}

-- ---- locators

pub locators_exact : IsExact IsLocator locator_words locator_at
locators_exact = exact locators_read

pub locator_long : (l : Locator) → 0 < length (locator_words l)
locator_long (V6 n proto port) = omega arith
locator_long (V4 n proto port) = omega arith
locator_long (Fqdn name proto port) = omega arith
locator_long (Uri text proto port) = omega arith

locators_all : (ls : List Locator) → All IsLocator ls → AllByRecursion IsLocator ls
locators_all [] h = tt
locators_all (l ∷ ls) h = (All-head IsLocator l ls h, locators_all ls (All-tail IsLocator l ls h))

-- ---- what floods told

flood_read_only : (ws : List (List ℕ)) (r : FloodRead) (rest : List (List ℕ)) → flood_read_at ws ≡ Ok (r, rest) → (ws ≡ flood_read_words r ++ rest) × IsFloodRead r
unfolding flood_read_at
flood_read_only ws r rest e =
    let a = taken addresses_read _ ws (r, rest) e in
    let o = taken_words objectives_read _ a.rest (r, rest) a.more in
    let l = taken_words optional_locators_read _ o.rest (r, rest) o.more in
    let made : FloodRead = record { initiator = a.first; objective = o.first; locator = l.first } in
    let pair : (made, l.rest) ≡ (r, rest) = ok_is (made, l.rest) (r, rest) l.more in
    let words : ws ≡ flood_read_words made ++ l.rest = after a.parts (behind (objective_words o.first) o.parts l.parts ∙ sym (append_assoc (objective_words o.first) (locator_or_none l.first) l.rest)) in
    subst (λ (y : FloodRead × List (List ℕ)). (ws ≡ flood_read_words y.0 ++ y.1) × IsFloodRead y.0) pair (words, record { initiator = a.is; objective = o.is; locator = l.is })

flood_read_found : (r : FloodRead) (rest : List (List ℕ)) → IsFloodRead r → flood_read_at (flood_read_words r ++ rest) ≡ Ok (r, rest)
unfolding flood_read_at
flood_read_found r rest h =
    let o : List (List ℕ) = objective_words r.objective in
    let l : List (List ℕ) = locator_or_none r.locator in
    ap (λ (t : List (List ℕ)). flood_read_at (address_word r.initiator ∷ t)) (append_assoc o l rest)
    ∙ rw (addresses_read.found r.initiator h.initiator, objectives_read.found r.objective (l ++ rest) h.objective, optional_locators_read.found r.locator rest h.locator) refl

pub flood_reads_exact : IsExact IsFloodRead flood_read_words flood_read_at
flood_reads_exact = record { found = flood_read_found; only = flood_read_only }

pub flood_read_long : (r : FloodRead) → 0 < length (flood_read_words r)
flood_read_long r = omega arith

-- ---- answers to calls

module _ (polled : Bool) where
  abbrev pub Answers : List ℕ → ApiAnswer → List (List ℕ) → Type 0
  Answers word a ws = Means (IsApiAnswer polled) answer_words a (word ∷ ws)

  asa_only : (ws : List (List ℕ)) (x : ApiAnswer × List (List ℕ)) → asa_at ws ≡ Ok x → Answers (codes "asa") x.0 ws
  unfolding asa_at
  asa_only ws x e =
      let a = taken read32 _ ws x e in
      let z = ended (api.Asa a.first) a.rest x a.more in
      subst (λ (y : ApiAnswer). Answers (codes "asa") y ws) (sym z.value) (record { ranges = small32 a.is; spelled = ap (λ (t : List (List ℕ)). codes "asa" ∷ t) (after a.parts z.words) })

  started_only : (ws : List (List ℕ)) (x : ApiAnswer × List (List ℕ)) → started_at ws ≡ Ok x → Answers (codes "started") x.0 ws
  unfolding started_at
  started_only ws x e =
      let a = taken read_handle _ ws x e in
      let z = ended (api.Started a.first) a.rest x a.more in
      subst (λ (y : ApiAnswer). Answers (codes "started") y ws) (sym z.value) (record { ranges = a.is; spelled = ap (λ (t : List (List ℕ)). codes "started" ∷ t) (after a.parts z.words) })

  alone_only : (word : List ℕ) (a : ApiAnswer) → IsApiAnswer polled a → answer_words a ≡ word ∷ [] → (ws : List (List ℕ)) (x : ApiAnswer × List (List ℕ)) → ending a ws ≡ Ok x → Answers word x.0 ws
  alone_only word a is words ws x e =
      let z = ended a ws x e in
      subst (λ (y : ApiAnswer). Answers word y ws) (sym z.value) (record { ranges = is; spelled = ap (λ (t : List (List ℕ)). word ∷ t) z.words ∙ sym words })

  found_only : (ws : List (List ℕ)) (x : ApiAnswer × List (List ℕ)) → found_at ws ≡ Ok x → Answers (codes "found") x.0 ws
  unfolding found_at
  found_only ws x e =
      let a = taken_words locators_read _ ws x e in
      let r = was_read _ (each_at locator_at (a.first ∷ []) a.rest) x a.more in
      let m = each_only IsLocator locator_words locator_at locators_exact locator_long all_locator_words refl (λ l ls. refl) (a.first ∷ []) r.first.0 a.rest r.first.1 r.is in
      let good : AreLocators (a.first ∷ m.others) = record { some = omega arith; each = All-from_recursion IsLocator (a.first ∷ m.others) (a.is, m.each) } in
      subst (λ (y : ApiAnswer). Answers (codes "found") y ws) (ap api.Found (sym m.parts) ∙ ap (λ (y : ApiAnswer × List (List ℕ)). y.0) (ok_is (api.Found r.first.0, r.first.1) x r.more)) (record {
        ranges = good;
        spelled = ap (λ (t : List (List ℕ)). codes "found" ∷ t) (behind (locator_words a.first) a.parts m.words);
      })

  not_yet_only : (ws : List (List ℕ)) (x : ApiAnswer × List (List ℕ)) → ending (not_yet polled) ws ≡ Ok x → Answers (codes "notyet") x.0 ws
  not_yet_only ws x e = let g = yet polled in alone_only (codes "notyet") (not_yet polled) g.0 g.1 ws x e
    where
      yet : (b : Bool) → IsApiAnswer b (not_yet b) × (answer_words (not_yet b) ≡ codes "notyet" ∷ [])
      yet true = (refl, refl)
      yet false = (refl, refl)

  incoming_only : (ws : List (List ℕ)) (x : ApiAnswer × List (List ℕ)) → incoming_at ws ≡ Ok x → Answers (codes "incoming") x.0 ws
  unfolding incoming_at
  incoming_only ws x e =
      let a = taken read_handle _ ws x e in
      let b = taken addresses_read _ a.rest x a.more in
      let o = taken_words objectives_read _ b.rest x b.more in
      let z = ended (api.Incoming a.first b.first o.first) o.rest x o.more in
      subst (λ (y : ApiAnswer). Answers (codes "incoming") y ws) (sym z.value) (record {
        ranges = (a.is, b.is, o.is);
        spelled = ap (λ (t : List (List ℕ)). codes "incoming" ∷ t) (after a.parts (after b.parts (at_end (objective_words o.first) o.parts z.words)));
      })

  turn_only : (ws : List (List ℕ)) (x : ApiAnswer × List (List ℕ)) → turn_at ws ≡ Ok x → Answers (codes "turn") x.0 ws
  unfolding turn_at
  turn_only ws x e =
      let o = taken_words objectives_read _ ws x e in
      let z = ended (api.Polled (progress.Turn o.first)) o.rest x o.more in
      subst (λ (y : ApiAnswer). Answers (codes "turn") y ws) (sym z.value) (record { ranges = o.is; spelled = ap (λ (t : List (List ℕ)). codes "turn" ∷ t) (at_end (objective_words o.first) o.parts z.words) })

  ended_only : (ws : List (List ℕ)) (x : ApiAnswer × List (List ℕ)) → ended_at ws ≡ Ok x → Answers (codes "ended") x.0 ws
  unfolding ended_at
  ended_only ws x e =
      let n = taken read_outcome _ ws x e in
      let r = was_read _ (outcome_at n.first n.rest) x n.more in
      let m = outcome_only n.first n.rest r.first r.is in
      subst (λ (y : ApiAnswer). Answers (codes "ended") y ws) (ap (λ (y : ApiAnswer × List (List ℕ)). y.0) (ok_is (api.Polled (progress.Ended r.first.0), r.first.1) x r.more)) (record {
        ranges = m.ranges;
        spelled = ap (λ (t : List (List ℕ)). codes "ended" ∷ t) (n.parts ∙ m.spelled);
      })

  floods_only : (ws : List (List ℕ)) (x : ApiAnswer × List (List ℕ)) → as_floods (each_at flood_read_at [] ws) ≡ Ok x → Answers (codes "floods") x.0 ws
  floods_only ws x e =
      let r = was_read _ (each_at flood_read_at [] ws) x e in
      let m = each_only IsFloodRead flood_read_words flood_read_at flood_reads_exact flood_read_long all_flood_read_words refl (λ l ls. refl) [] r.first.0 ws r.first.1 r.is in
      subst (λ (y : ApiAnswer). Answers (codes "floods") y ws) (ap api.Floods (sym m.parts) ∙ ap (λ (y : ApiAnswer × List (List ℕ)). y.0) (ok_is (api.Floods r.first.0, r.first.1) x r.more)) (record {
        ranges = m.each;
        spelled = ap (λ (t : List (List ℕ)). codes "floods" ∷ t) m.words;
      })

  abbrev pub Told : List ℕ → RecordAnswer → List (List ℕ) → Type 0
  Told word a ws = Means (IsOfCall polled) told_words a (word ∷ ws)

  refused_only : (ws : List (List ℕ)) (x : RecordAnswer × List (List ℕ)) → refused_at ws ≡ Ok x → Told (codes "refused") x.0 ws
  unfolding refused_at
  refused_only ws x e =
      let a = taken read8 _ ws x e in
      let b = taken read_refusal _ a.rest x a.more in
      let p = passed (eqb a.first (refusal_number b.first)) (answer.Refused b.first) b.rest x b.more in
      let number : a.first ≡ refusal_number b.first = eqb-true a.first (refusal_number b.first) p.test in
      subst (λ (y : RecordAnswer). Told (codes "refused") y ws) (sym p.over.value) (record {
        ranges = b.is;
        spelled = ap (λ (t : List (List ℕ)). codes "refused" ∷ t) (after a.parts (after b.parts p.over.words)) ∙ ap (λ (n : ℕ). codes "refused" ∷ decimal n ∷ refusal_name b.first ∷ []) number;
      })

  api_only : (word : List ℕ) (ws : List (List ℕ)) (r : Parsed ApiAnswer) (x : RecordAnswer × List (List ℕ)) → ((y : ApiAnswer × List (List ℕ)) → r ≡ Ok y → Answers word y.0 ws) → as_api r ≡ Ok x → Told word x.0 ws
  api_only word ws (Ok y) x h e =
      let m = h y refl in
      subst (λ (a : RecordAnswer). Told word a ws) (ap (λ (z : RecordAnswer × List (List ℕ)). z.0) (ok_is (answer.Api y.0, y.1) x e)) (record { ranges = m.ranges; spelled = m.spelled })
  api_only word ws (Err n) x h e = absurd cc

  answered_only : (n : AnswerName) (ws : List (List ℕ)) (x : RecordAnswer × List (List ℕ)) → answered_at polled n ws ≡ Ok x → Told (answer_word n) x.0 ws
  answered_only answered.Asa ws x e = api_only (codes "asa") ws (asa_at ws) x (asa_only ws) e
  answered_only answered.Done ws x e = api_only (codes "done") ws (ending api.Done ws) x (alone_only (codes "done") api.Done tt refl ws) e
  answered_only answered.Started ws x e = api_only (codes "started") ws (started_at ws) x (started_only ws) e
  answered_only answered.Searching ws x e = api_only (codes "searching") ws (ending api.Searching ws) x (alone_only (codes "searching") api.Searching tt refl ws) e
  answered_only answered.Found ws x e = api_only (codes "found") ws (found_at ws) x (found_only ws) e
  answered_only answered.Nothing ws x e = api_only (codes "nothing") ws (ending api.Nothing ws) x (alone_only (codes "nothing") api.Nothing tt refl ws) e
  answered_only answered.NotYet ws x e = api_only (codes "notyet") ws (ending (not_yet polled) ws) x (not_yet_only ws) e
  answered_only answered.Incoming ws x e = api_only (codes "incoming") ws (incoming_at ws) x (incoming_only ws) e
  answered_only answered.Turn ws x e = api_only (codes "turn") ws (turn_at ws) x (turn_only ws) e
  answered_only answered.Ended ws x e = api_only (codes "ended") ws (ended_at ws) x (ended_only ws) e
  answered_only answered.Floods ws x e = api_only (codes "floods") ws (as_floods (each_at flood_read_at [] ws)) x (floods_only ws) e
  answered_only answered.Refused ws x e = refused_only ws x e

  pub of_call_only : (ws : List (List ℕ)) (x : RecordAnswer × List (List ℕ)) → of_call_at polled ws ≡ Ok x → Means (IsOfCall polled) told_words x.0 ws
  unfolding of_call_at
  of_call_only ws x e =
      let n = taken read_answer _ ws x e in
      let m = answered_only n.first n.rest x n.more in
      record { ranges = m.ranges; spelled = n.parts ∙ m.spelled }

  -- ---- found

  asa_found : (number : ℕ) → IsApiAnswer polled (api.Asa number) → asa_at (decimal number ∷ []) ≡ Ok (api.Asa number, [])
  unfolding asa_at
  asa_found number h = rw (read32.found number (within32 h)) refl

  started_found : (handle : Handle) → IsApiAnswer polled (api.Started handle) → started_at (decimal handle.number ∷ []) ≡ Ok (api.Started handle, [])
  unfolding started_at
  started_found handle h = rw (read_handle.found handle h) refl

  found_found : (ls : List Locator) → AreLocators ls → found_at (all_locator_words ls) ≡ Ok (api.Found ls, [])
  unfolding found_at
  found_found [] h = absurd (let some = h.some in omega arith)
  found_found (l ∷ ls) h =
      rw (locators_read.found l (all_locator_words ls) (All-head IsLocator l ls h.each), each_found IsLocator locator_words locator_at locators_exact locator_long all_locator_words refl (λ x xs. refl) (l ∷ []) ls (locators_all ls (All-tail IsLocator l ls h.each))) refl

  incoming_found : (handle : Handle) (from : Address) (o : Objective) → IsApiAnswer polled (api.Incoming handle from o) → incoming_at (decimal handle.number ∷ address_word from ∷ objective_words o) ≡ Ok (api.Incoming handle from o, [])
  unfolding incoming_at
  incoming_found handle from o h = rw (read_handle.found handle h.0, addresses_read.found from h.1, objective_found o h.2) refl

  turn_found : (o : Objective) → IsApiAnswer polled (api.Polled (progress.Turn o)) → turn_at (objective_words o) ≡ Ok (api.Polled (progress.Turn o), [])
  unfolding turn_at
  turn_found o h = rw (objective_found o h) refl

  ended_found : (o : Outcome) → IsOutcome o → ended_at (outcome_words o) ≡ Ok (api.Polled (progress.Ended o), [])
  unfolding ended_at
  ended_found o h = let t = outcome_found o h in rw (t.words, outcome_again t.name, t.read) refl

  floods_found : (rs : List FloodRead) → AllByRecursion IsFloodRead rs → as_floods (each_at flood_read_at [] (all_flood_read_words rs)) ≡ Ok (api.Floods rs, [])
  floods_found rs h = rw (each_found IsFloodRead flood_read_words flood_read_at flood_reads_exact flood_read_long all_flood_read_words refl (λ x xs. refl) [] rs h) refl

  number_small : (r : ApiRefused) → refusal_number r ≤ 255
  number_small refusal.NoAsa = omega arith
  number_small _ = omega arith

  refused_found : (r : ApiRefused) → IsOfCall polled (answer.Refused r) → refused_at (decimal (refusal_number r) ∷ refusal_name r ∷ []) ≡ Ok (answer.Refused r, [])
  unfolding refused_at
  refused_found r h = rw (read8.found (refusal_number r) (number_small r), read_refusal.found r h, eq-eqb (refusal_number r) (refusal_number r) refl) refl

  begun : (n : AnswerName) (ws : List (List ℕ)) → of_call_at polled (answer_word n ∷ ws) ≡ answered_at polled n ws
  unfolding of_call_at
  begun n ws = rw (answer_again n) refl

  pub of_call_found : (a : RecordAnswer) → IsOfCall polled a → of_call_at polled (told_words a) ≡ Ok (a, [])
  of_call_found (answer.Api (api.Asa number)) h = begun answered.Asa _ ∙ ap as_api (asa_found number h)
  of_call_found (answer.Api api.Done) h = begun answered.Done _
  of_call_found (answer.Api (api.Started handle)) h = begun answered.Started _ ∙ ap as_api (started_found handle h)
  of_call_found (answer.Api api.Searching) h = begun answered.Searching _
  of_call_found (answer.Api (api.Found ls)) h = begun answered.Found _ ∙ ap as_api (found_found ls h)
  of_call_found (answer.Api api.Nothing) h = begun answered.Nothing _
  of_call_found (answer.Api api.NotYet) h = begun answered.NotYet _ ∙ ap (λ (b : Bool). as_api (ending (not_yet b) [])) h
  of_call_found (answer.Api (api.Incoming handle from o)) h = begun answered.Incoming _ ∙ ap as_api (incoming_found handle from o h)
  of_call_found (answer.Api (api.Polled progress.NotYet)) h = begun answered.NotYet _ ∙ ap (λ (b : Bool). as_api (ending (not_yet b) [])) h
  of_call_found (answer.Api (api.Polled (progress.Turn o))) h = begun answered.Turn _ ∙ ap as_api (turn_found o h)
  of_call_found (answer.Api (api.Polled (progress.Ended o))) h = begun answered.Ended _ ∙ ap as_api (ended_found o h)
  of_call_found (answer.Api (api.Floods rs)) h = begun answered.Floods _ ∙ ap as_api (floods_found rs h)
  of_call_found (answer.Refused r) h = begun answered.Refused _ ∙ refused_found r h
  of_call_found _ h = absurd h

-- ---- answers to wants

abbrev Wants : List ℕ → RecordAnswer → List (List ℕ) → Type 0
Wants word a ws = Means IsOfWant told_words a (word ∷ ws)

busy_only : (ws : List (List ℕ)) (x : RecordAnswer × List (List ℕ)) → busy_at ws ≡ Ok x → Wants (codes "busy") x.0 ws
unfolding busy_at
busy_only ws x e =
    let a = taken read8 _ ws x e in
    let b = taken read8 _ a.rest x a.more in
    let z = ended (answer.Want (Err (Busy a.first b.first))) b.rest x b.more in
    subst (λ (y : RecordAnswer). Wants (codes "busy") y ws) (sym z.value) (record { ranges = (small8 a.is, small8 b.is); spelled = ap (λ (t : List (List ℕ)). codes "busy" ∷ t) (after a.parts (after b.parts z.words)) })

-- an answer of one word
alone : (IsOne : RecordAnswer → Type 0) (word : List ℕ) (a : RecordAnswer) → IsOne a → told_words a ≡ word ∷ [] → (ws : List (List ℕ)) (x : RecordAnswer × List (List ℕ)) → ending a ws ≡ Ok x → Means IsOne told_words x.0 (word ∷ ws)
alone IsOne word a is words ws x e =
    let z = ended a ws x e in
    subst (λ (y : RecordAnswer). Means IsOne told_words y (word ∷ ws)) (sym z.value) (record { ranges = is; spelled = ap (λ (t : List (List ℕ)). word ∷ t) z.words ∙ sym words })

wanted_only : (n : WantName) (ws : List (List ℕ)) (x : RecordAnswer × List (List ℕ)) → wanted_at n ws ≡ Ok x → Wants (want_word n) x.0 ws
wanted_only wanted.Fine ws x e = alone IsOfWant (codes "ok") (answer.Want (Ok tt)) tt refl ws x e
wanted_only wanted.Busy ws x e = busy_only ws x e
wanted_only wanted.Full ws x e = alone IsOfWant (codes "full") (answer.Want (Err Full)) tt refl ws x e

pub of_want_only : (ws : List (List ℕ)) (x : RecordAnswer × List (List ℕ)) → of_want_at ws ≡ Ok x → Means IsOfWant told_words x.0 ws
unfolding of_want_at
of_want_only ws x e =
    let n = taken read_want _ ws x e in
    let m = wanted_only n.first n.rest x n.more in
    record { ranges = m.ranges; spelled = n.parts ∙ m.spelled }

busy_found : (length longest : ℕ) → IsOfWant (answer.Want (Err (Busy length longest))) → busy_at (decimal length ∷ decimal longest ∷ []) ≡ Ok (answer.Want (Err (Busy length longest)), [])
unfolding busy_at
busy_found length longest h = rw (read8.found length (within8 h.0), read8.found longest (within8 h.1)) refl

want_begun : (n : WantName) (ws : List (List ℕ)) → of_want_at (want_word n ∷ ws) ≡ wanted_at n ws
unfolding of_want_at
want_begun n ws = rw (want_again n) refl

pub of_want_found : (a : RecordAnswer) → IsOfWant a → of_want_at (told_words a) ≡ Ok (a, [])
of_want_found (answer.Want (Ok u)) h = want_begun wanted.Fine _
of_want_found (answer.Want (Err (Busy length longest))) h = want_begun wanted.Busy _ ∙ busy_found length longest h
of_want_found (answer.Want (Err Full)) h = want_begun wanted.Full _
of_want_found _ h = absurd h

-- ---- answers to returns

abbrev Returns : List ℕ → RecordAnswer → List (List ℕ) → Type 0
Returns word a ws = Means IsOfReturn told_words a (word ∷ ws)

busy_return_only : (ws : List (List ℕ)) (x : RecordAnswer × List (List ℕ)) → busy_return_at ws ≡ Ok x → Returns (codes "busy") x.0 ws
unfolding busy_return_at
busy_return_only ws x e =
    let a = taken read_prefix _ ws x e in
    let z = ended (answer.Return (Err (back.Busy a.first))) a.rest x a.more in
    subst (λ (y : RecordAnswer). Returns (codes "busy") y ws) (sym z.value) (record { ranges = a.is; spelled = ap (λ (t : List (List ℕ)). codes "busy" ∷ t) (after a.parts z.words) })

returned_only : (n : ReturnName) (ws : List (List ℕ)) (x : RecordAnswer × List (List ℕ)) → returned_at n ws ≡ Ok x → Returns (return_word n) x.0 ws
returned_only returned.Fine ws x e = alone IsOfReturn (codes "ok") (answer.Return (Ok tt)) tt refl ws x e
returned_only returned.Busy ws x e = busy_return_only ws x e
returned_only returned.NotFree ws x e = alone IsOfReturn (codes "notfree") (answer.Return (Err back.NotFree)) tt refl ws x e
returned_only returned.Full ws x e = alone IsOfReturn (codes "full") (answer.Return (Err back.Full)) tt refl ws x e

pub of_return_only : (ws : List (List ℕ)) (x : RecordAnswer × List (List ℕ)) → of_return_at ws ≡ Ok x → Means IsOfReturn told_words x.0 ws
unfolding of_return_at
of_return_only ws x e =
    let n = taken read_return _ ws x e in
    let m = returned_only n.first n.rest x n.more in
    record { ranges = m.ranges; spelled = n.parts ∙ m.spelled }

busy_return_found : (p : AddressBlock) → IsOfReturn (answer.Return (Err (back.Busy p))) → busy_return_at (prefix_word p ∷ []) ≡ Ok (answer.Return (Err (back.Busy p)), [])
unfolding busy_return_at
busy_return_found p h = rw (read_prefix.found p h) refl

return_begun : (n : ReturnName) (ws : List (List ℕ)) → of_return_at (return_word n ∷ ws) ≡ returned_at n ws
unfolding of_return_at
return_begun n ws = rw (return_again n) refl

pub of_return_found : (a : RecordAnswer) → IsOfReturn a → of_return_at (told_words a) ≡ Ok (a, [])
of_return_found (answer.Return (Ok u)) h = return_begun returned.Fine _
of_return_found (answer.Return (Err (back.Busy p))) h = return_begun returned.Busy _ ∙ busy_return_found p h
of_return_found (answer.Return (Err back.NotFree)) h = return_begun returned.NotFree _
of_return_found (answer.Return (Err back.Full)) h = return_begun returned.Full _
of_return_found _ h = absurd h
