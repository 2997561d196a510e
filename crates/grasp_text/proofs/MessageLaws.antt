-- A message is read where its words are, and nowhere else.
use Rattle.std.proofs.Common.{◌≡◌, ℕ, ◌^◌, ◌<◌, ◌≤◌, ◌⊎◌, inl, inr, Bool, true, false, List, [], ◌∷◌, ◌++◌, Option, Some, None, refl, sym, ap, subst, ◌∙◌, arith}
use Rattle.std.specs.Prelude.{IfSome, decimal}
use Rattle.std.specs.Str.{IsUtf8}
use Rattle.std.proofs.lemmas.List.{append-nil}
use Rattle.grasp_types.specs.Address.{IsAddress}
use Rattle.grasp_types.specs.Message.{IsMessage, IsVerdict, AreLocators}
use Rattle.grasp_types.specs.Objective.{IsObjective}
use Rattle.grasp_types.specs.declared.address.Address.{Address}
use Rattle.grasp_types.specs.declared.address.Locator.{Locator}
use Rattle.grasp_types.specs.declared.message.Answer.TheVariants.{Locators, Divert}
use Rattle.grasp_types.specs.declared.message.Message.{Message}
use Rattle.grasp_types.specs.declared.message.Message.TheVariants as message
use Rattle.grasp_types.specs.declared.message.Verdict.{Verdict}
use Rattle.grasp_types.specs.declared.message.Verdict.TheVariants.{Accept, Decline}
use Rattle.grasp_types.specs.declared.objective.Objective.{Objective}
use Rattle.grasp_text.specs.Grammar.{number32, ending, objective_at, name_of, named_at, discovery_at, response_at, answers_at, answer_of, are_locators, objective_of_session_at, reason_at, verdict_at, is_accept, end_message_at, wait_at, flood_parts_at, flood_at, invalid_at, message_at}
use Rattle.grasp_text.specs.Line.{address_word, text_word, value_word, or_dash, objective_words, optional_objective_words, all_locator_words, answer_words, all_flood_part_words, verdict_words, message_words}
use Rattle.grasp_text.specs.Reading.{◌>>=◌, text_of, value_of, maybe_of, address_of}
use Rattle.grasp_text.specs.declared.names.MessageName.{MessageName}
use Rattle.grasp_text.specs.declared.names.MessageName.TheVariants as name
use Rattle.grasp_text.proofs.Lawful.{Nothing, Lawful, Exact, WordThen, Then, Only, Made, then_all, word_then_all, made_lawful, or_end_lawful, restated}
use Rattle.grasp_text.proofs.Leaves.{Spelled, IsText, text_exact}
use Rattle.grasp_text.proofs.ListLaws.{AnswersWords, answers_lawful, PartsWords, flood_parts_lawful}
use Rattle.grasp_text.proofs.NumberWords.{IsNumber, number_exact}
use Rattle.grasp_text.proofs.PartLaws.{ending_lawful, ObjectiveWords, objective_lawful, objective_takes, IsMaybeValue, maybe_value_exact, told_value, value_told}
use Rattle.grasp_text.proofs.SpelledWords.{name_word, name_exact, answer_word, answer_exact, verdict_word, verdict_exact, IsAddressWord, address_exact}

abbrev IsNumber32 : ℕ → List ℕ → Type 0
IsNumber32 = IsNumber 4294967295

number32_exact : Exact IsNumber32 number32
number32_exact = number_exact 4294967295 (omega arith)

-- ---- the words behind a message's name

abbrev pub message_name : Message → MessageName
message_name message.Noop = name.Noop
message_name (message.Discovery session initiator objective) = name.Discovery
message_name (message.Response session initiator ttl answer objective) = name.Response
message_name (message.ReqNeg session objective) = name.RequestNegotiation
message_name (message.ReqSyn session objective) = name.RequestSynchronization
message_name (message.Negotiate session objective) = name.Negotiate
message_name (message.End session verdict) = name.End
message_name (message.Wait session millis) = name.Wait
message_name (message.Synch session objective) = name.Synch
message_name (message.Flood session initiator ttl parts) = name.Flood
message_name (message.Invalid session detail) = name.Invalid

abbrev pub message_tail : Message → List (List ℕ)
message_tail message.Noop = []
message_tail (message.Discovery session initiator objective) = decimal session ∷ address_word initiator ∷ objective_words objective
message_tail (message.Response session initiator ttl answer objective) = decimal session ∷ address_word initiator ∷ decimal ttl ∷ (answer_words answer ++ optional_objective_words objective)
message_tail (message.ReqNeg session objective) = decimal session ∷ objective_words objective
message_tail (message.ReqSyn session objective) = decimal session ∷ objective_words objective
message_tail (message.Negotiate session objective) = decimal session ∷ objective_words objective
message_tail (message.End session verdict) = decimal session ∷ verdict_words verdict
message_tail (message.Wait session millis) = decimal session ∷ decimal millis ∷ []
message_tail (message.Synch session objective) = decimal session ∷ objective_words objective
message_tail (message.Flood session initiator ttl parts) = decimal session ∷ address_word initiator ∷ decimal ttl ∷ all_flood_part_words parts
message_tail (message.Invalid session detail) = decimal session ∷ or_dash value_word detail ∷ []

pub message_all : (m : Message) → message_words m ≡ name_word (message_name m) ∷ message_tail m
message_all message.Noop = refl
message_all _ = refl

-- the words behind the name of this message
record NamedWords (n : MessageName) (m : Message) (ws : List (List ℕ)) : Type 0 where
  kind : message_name m ≡ n
  whole : IsMessage m
  spelled : ws ≡ message_tail m

-- ---- noop

noop_to : (m : Message) (ws : List (List ℕ)) → Only message.Noop m ws → NamedWords name.Noop m ws
noop_to m ws o = subst (λ (x : Message). NamedWords name.Noop x ws) (sym o.value) (record { kind = refl; whole = tt; spelled = o.words })

noop_from : (m : Message) (ws : List (List ℕ)) → NamedWords name.Noop m ws → Only message.Noop m ws
noop_from message.Noop ws h = record { value = refl; words = h.spelled }
noop_from m ws h = absurd (let e = h.kind in cc)

-- ---- an objective at the end

module _ {B : Type 0} (make : Objective → B) where
  objective_end_to : (b : B) (ws : List (List ℕ)) → Then ObjectiveWords (λ o. Only (make o)) b ws → Made make ObjectiveWords b ws
  objective_end_to b ws t =
      let w : ObjectiveWords t.first t.front = t.is in
      let whole : t.front ≡ ws = sym (t.parts ∙ ap (λ (x : List (List ℕ)). t.front ++ x) t.others.words ∙ append-nil t.front) in
      record { from = t.first; is = t.others.value; words = subst (λ (x : List (List ℕ)). ObjectiveWords t.first x) whole w }

  objective_end_from : (b : B) (ws : List (List ℕ)) → Made make ObjectiveWords b ws → Then ObjectiveWords (λ o. Only (make o)) b ws
  objective_end_from b ws m = record { first = m.from; front = ws; rest = []; is = m.words; others = record { value = m.is; words = refl }; parts = sym (append-nil ws) }

  objective_end_lawful : (k : ℕ) → Lawful k Nothing (Made make ObjectiveWords) (λ ws. objective_at ws >>= λ o. ending (make o.0) o.1)
  objective_end_lawful k = restated k Nothing (Then ObjectiveWords (λ o. Only (make o))) (Made make ObjectiveWords) _
      (then_all Nothing ObjectiveWords (λ o. Only (make o)) objective_at (λ o ws. ending (make o) ws) objective_lawful (λ o k. ending_lawful (make o) k) objective_takes k) objective_end_to objective_end_from

-- ---- a session and an objective

pair_of : ℕ → Objective → ℕ × Objective
pair_of session o = (session, o)

record PairWords (x : ℕ × Objective) (ws : List (List ℕ)) : Type 0 where
  session : x.0 < 2 ^ 32
  ranges : IsObjective x.1
  spelled : ws ≡ decimal x.0 ∷ objective_words x.1

abbrev PairThen : ℕ × Objective → List (List ℕ) → Type 0
PairThen = WordThen IsNumber32 (λ session. Made (pair_of session) ObjectiveWords)

pair_to : (x : ℕ × Objective) (ws : List (List ℕ)) → PairThen x ws → PairWords x ws
unfolding pair_of
pair_to x ws t =
    let m = t.others in
    let w : ObjectiveWords m.from t.rest = m.words in
    let le : t.first ≤ 4294967295 = t.is.within in
    subst (λ (y : ℕ × Objective). PairWords y ws) (sym m.is) (record { session = omega arith; ranges = w.ranges; spelled = t.parts ∙ (λ i. t.is.digits i ∷ w.spelled i) })

pair_from : (x : ℕ × Objective) (ws : List (List ℕ)) → PairWords x ws → PairThen x ws
unfolding pair_of
pair_from x ws p =
    let lt : x.0 < 2 ^ 32 = p.session in
    record { first = x.0; word = decimal x.0; rest = objective_words x.1; is = record { within = omega arith; digits = refl }; parts = p.spelled; others = record { from = x.1; is = refl; words = record { ranges = p.ranges; spelled = refl } } }

pair_lawful : (k : ℕ) → Lawful k Nothing PairWords objective_of_session_at
unfolding objective_of_session_at pair_of
pair_lawful k = restated k Nothing PairThen PairWords _
    (word_then_all Nothing IsNumber32 (λ session. Made (pair_of session) ObjectiveWords) number32 _ number32_exact (λ session. objective_end_lawful (pair_of session)) k) pair_to pair_from

req_neg : ℕ × Objective → Message
req_neg x = message.ReqNeg x.0 x.1

req_neg_to : (m : Message) (ws : List (List ℕ)) → Made req_neg PairWords m ws → NamedWords name.RequestNegotiation m ws
unfolding req_neg
req_neg_to m ws d = subst (λ (y : Message). NamedWords name.RequestNegotiation y ws) (sym d.is) (let p = d.words in record { kind = refl; whole = (p.session, p.ranges); spelled = p.spelled })

req_neg_from : (m : Message) (ws : List (List ℕ)) → NamedWords name.RequestNegotiation m ws → Made req_neg PairWords m ws
unfolding req_neg
req_neg_from (message.ReqNeg session o) ws h = record { from = (session, o); is = refl; words = record { session = h.whole.0; ranges = h.whole.1; spelled = h.spelled } }
req_neg_from m ws h = absurd (let e = h.kind in cc)

req_syn : ℕ × Objective → Message
req_syn x = message.ReqSyn x.0 x.1

req_syn_to : (m : Message) (ws : List (List ℕ)) → Made req_syn PairWords m ws → NamedWords name.RequestSynchronization m ws
unfolding req_syn
req_syn_to m ws d = subst (λ (y : Message). NamedWords name.RequestSynchronization y ws) (sym d.is) (let p = d.words in record { kind = refl; whole = (p.session, p.ranges); spelled = p.spelled })

req_syn_from : (m : Message) (ws : List (List ℕ)) → NamedWords name.RequestSynchronization m ws → Made req_syn PairWords m ws
unfolding req_syn
req_syn_from (message.ReqSyn session o) ws h = record { from = (session, o); is = refl; words = record { session = h.whole.0; ranges = h.whole.1; spelled = h.spelled } }
req_syn_from m ws h = absurd (let e = h.kind in cc)

negotiate : ℕ × Objective → Message
negotiate x = message.Negotiate x.0 x.1

negotiate_to : (m : Message) (ws : List (List ℕ)) → Made negotiate PairWords m ws → NamedWords name.Negotiate m ws
unfolding negotiate
negotiate_to m ws d = subst (λ (y : Message). NamedWords name.Negotiate y ws) (sym d.is) (let p = d.words in record { kind = refl; whole = (p.session, p.ranges); spelled = p.spelled })

negotiate_from : (m : Message) (ws : List (List ℕ)) → NamedWords name.Negotiate m ws → Made negotiate PairWords m ws
unfolding negotiate
negotiate_from (message.Negotiate session o) ws h = record { from = (session, o); is = refl; words = record { session = h.whole.0; ranges = h.whole.1; spelled = h.spelled } }
negotiate_from m ws h = absurd (let e = h.kind in cc)

synch : ℕ × Objective → Message
synch x = message.Synch x.0 x.1

synch_to : (m : Message) (ws : List (List ℕ)) → Made synch PairWords m ws → NamedWords name.Synch m ws
unfolding synch
synch_to m ws d = subst (λ (y : Message). NamedWords name.Synch y ws) (sym d.is) (let p = d.words in record { kind = refl; whole = (p.session, p.ranges); spelled = p.spelled })

synch_from : (m : Message) (ws : List (List ℕ)) → NamedWords name.Synch m ws → Made synch PairWords m ws
unfolding synch
synch_from (message.Synch session o) ws h = record { from = (session, o); is = refl; words = record { session = h.whole.0; ranges = h.whole.1; spelled = h.spelled } }
synch_from m ws h = absurd (let e = h.kind in cc)

-- ---- discovery

abbrev DiscoveryThen : Message → List (List ℕ) → Type 0
DiscoveryThen = WordThen IsNumber32 (λ session. WordThen IsAddressWord (λ initiator. Made (message.Discovery session initiator) ObjectiveWords))

discovery_to : (m : Message) (ws : List (List ℕ)) → DiscoveryThen m ws → NamedWords name.Discovery m ws
discovery_to m ws t =
    let a = t.others in
    let d = a.others in
    let w : ObjectiveWords d.from a.rest = d.words in
    let le : t.first ≤ 4294967295 = t.is.within in
    subst (λ (y : Message). NamedWords name.Discovery y ws) (sym d.is) (record {
      kind = refl;
      whole = (omega arith, a.is.within, w.ranges);
      spelled = t.parts ∙ (λ i. t.is.digits i ∷ (a.parts ∙ (λ i. a.is.spelled i ∷ w.spelled i)) i);
    })

discovery_from : (m : Message) (ws : List (List ℕ)) → NamedWords name.Discovery m ws → DiscoveryThen m ws
discovery_from (message.Discovery session initiator o) ws h =
    let lt : session < 2 ^ 32 = h.whole.0 in
    record {
      first = session;
      word = decimal session;
      rest = _;
      is = record { within = omega arith; digits = refl };
      parts = h.spelled;
      others = record {
        first = initiator;
        word = address_word initiator;
        rest = _;
        is = record { within = h.whole.1; spelled = refl };
        parts = refl;
        others = record { from = o; is = refl; words = record { ranges = h.whole.2; spelled = refl } };
      };
    }
discovery_from m ws h = absurd (let e = h.kind in cc)

discovery_lawful : (k : ℕ) → Lawful k Nothing (NamedWords name.Discovery) discovery_at
unfolding discovery_at
discovery_lawful k = restated k Nothing DiscoveryThen (NamedWords name.Discovery) _
    (word_then_all Nothing IsNumber32 (λ session. WordThen IsAddressWord (λ initiator. Made (message.Discovery session initiator) ObjectiveWords)) number32 _ number32_exact (λ session.
    word_then_all Nothing IsAddressWord (λ initiator. Made (message.Discovery session initiator) ObjectiveWords) address_of _ address_exact (λ initiator. objective_end_lawful (message.Discovery session initiator))) k) discovery_to discovery_from

-- ---- response

respond : ℕ → Address → ℕ → Bool → List Locator × Option Objective → Message
respond session initiator ttl kind x = message.Response session initiator ttl (answer_of kind x.0) x.1

abbrev ResponseThen : Message → List (List ℕ) → Type 0
ResponseThen = WordThen IsNumber32 (λ session. WordThen IsAddressWord (λ initiator. WordThen IsNumber32 (λ ttl. WordThen (Spelled answer_word) (λ kind. Made (respond session initiator ttl kind) AnswersWords))))

response_made : (session : ℕ) (initiator : Address) (ttl : ℕ) (kind : Bool) (ls : List Locator) (o : Option Objective) (ws : List (List ℕ)) → session < 2 ^ 32 → IsAddress initiator → ttl < 2 ^ 32 → AreLocators ls → IfSome o (λ o. ObjectiveWords o (objective_words o)) → ws ≡ decimal session ∷ address_word initiator ∷ decimal ttl ∷ answer_word kind ∷ (all_locator_words ls ++ optional_objective_words o) → NamedWords name.Response (message.Response session initiator ttl (answer_of kind ls) o) ws
response_made session initiator ttl true ls None ws a b d r w e = record { kind = refl; whole = (a, b, d, r, tt); spelled = e }
response_made session initiator ttl false ls None ws a b d r w e = record { kind = refl; whole = (a, b, d, r, tt); spelled = e }
response_made session initiator ttl true ls (Some o) ws a b d r w e = record { kind = refl; whole = (a, b, d, r, w.ranges); spelled = e }
response_made session initiator ttl false ls (Some o) ws a b d r w e = record { kind = refl; whole = (a, b, d, r, w.ranges); spelled = e }

response_to : (m : Message) (ws : List (List ℕ)) → ResponseThen m ws → NamedWords name.Response m ws
unfolding respond
response_to m ws t =
    let a = t.others in
    let l = a.others in
    let q = l.others in
    let d = q.others in
    let w : AnswersWords d.from q.rest = d.words in
    let le : t.first ≤ 4294967295 = t.is.within in
    let ge : l.first ≤ 4294967295 = l.is.within in
    subst (λ (y : Message). NamedWords name.Response y ws) (sym d.is)
    (response_made t.first a.first l.first q.first d.from.0 d.from.1 ws (omega arith) a.is.within (omega arith) w.locators w.objective
    (t.parts ∙ (λ i. t.is.digits i ∷ (a.parts ∙ (λ i. a.is.spelled i ∷ (l.parts ∙ (λ i. l.is.digits i ∷ (q.parts ∙ (λ i. q.is.spelled i ∷ w.spelled i)) i)) i)) i)))

some_objective : (o : Option Objective) → IfSome o IsObjective → IfSome o (λ o. ObjectiveWords o (objective_words o))
some_objective None r = tt
some_objective (Some o) r = record { ranges = r; spelled = refl }

response_of : (session : ℕ) (initiator : Address) (ttl : ℕ) (kind : Bool) (ls : List Locator) (o : Option Objective) (ws : List (List ℕ)) → session < 2 ^ 32 → IsAddress initiator → ttl < 2 ^ 32 → AreLocators ls → IfSome o (λ o. ObjectiveWords o (objective_words o)) → ws ≡ decimal session ∷ address_word initiator ∷ decimal ttl ∷ answer_word kind ∷ (all_locator_words ls ++ optional_objective_words o) → ResponseThen (message.Response session initiator ttl (answer_of kind ls) o) ws
unfolding respond
response_of session initiator ttl kind ls o ws a b d r w e = record {
  first = session;
  word = decimal session;
  rest = _;
  is = record { within = omega arith; digits = refl };
  parts = e;
  others = record {
    first = initiator;
    word = address_word initiator;
    rest = _;
    is = record { within = b; spelled = refl };
    parts = refl;
    others = record {
      first = ttl;
      word = decimal ttl;
      rest = _;
      is = record { within = omega arith; digits = refl };
      parts = refl;
      others = record {
        first = kind;
        word = answer_word kind;
        rest = all_locator_words ls ++ optional_objective_words o;
        is = record { spelled = refl };
        parts = refl;
        others = record { from = (ls, o); is = refl; words = record { locators = r; objective = w; spelled = refl } };
      };
    };
  };
}

response_from : (m : Message) (ws : List (List ℕ)) → NamedWords name.Response m ws → ResponseThen m ws
response_from (message.Response session initiator ttl (Locators ls) o) ws h = response_of session initiator ttl true ls o ws h.whole.0 h.whole.1 h.whole.2 h.whole.3 (some_objective o h.whole.4) h.spelled
response_from (message.Response session initiator ttl (Divert ls) o) ws h = response_of session initiator ttl false ls o ws h.whole.0 h.whole.1 h.whole.2 h.whole.3 (some_objective o h.whole.4) h.spelled
response_from m ws h = absurd (let e = h.kind in cc)

response_lawful : (k : ℕ) → Lawful k Nothing (NamedWords name.Response) response_at
unfolding response_at respond
response_lawful k = restated k Nothing ResponseThen (NamedWords name.Response) _
    (word_then_all Nothing IsNumber32 (λ session. WordThen IsAddressWord (λ initiator. WordThen IsNumber32 (λ ttl. WordThen (Spelled answer_word) (λ kind. Made (respond session initiator ttl kind) AnswersWords)))) number32 _ number32_exact (λ session.
    word_then_all Nothing IsAddressWord (λ initiator. WordThen IsNumber32 (λ ttl. WordThen (Spelled answer_word) (λ kind. Made (respond session initiator ttl kind) AnswersWords))) address_of _ address_exact (λ initiator.
    word_then_all Nothing IsNumber32 (λ ttl. WordThen (Spelled answer_word) (λ kind. Made (respond session initiator ttl kind) AnswersWords)) number32 _ number32_exact (λ ttl.
    word_then_all Nothing (Spelled answer_word) (λ kind. Made (respond session initiator ttl kind) AnswersWords) are_locators _ answer_exact (λ kind k.
    made_lawful k Nothing AnswersWords answers_at (respond session initiator ttl kind) (answers_lawful k))))) k) response_to response_from

-- ---- end

abbrev ReasonThen : Option (List ℕ) → List (List ℕ) → Type 0
ReasonThen r ws = Only None r ws ⊎ WordThen IsText (λ reason. Only (Some reason)) r ws

reason_takes : (r : Option (List ℕ)) → ¬ (WordThen IsText (λ reason. Only (Some reason)) r [])
reason_takes r t = let e = t.parts in cc

reason_lawful : (k : ℕ) → Lawful k Nothing ReasonThen reason_at
reason_lawful k = or_end_lawful k None (WordThen IsText (λ reason. Only (Some reason))) _
    (word_then_all Nothing IsText (λ reason. Only (Some reason)) text_of _ text_exact (λ reason k. ending_lawful (Some reason) k) k) reason_takes

abbrev is_accepting : Verdict → Bool
is_accepting Accept = true
is_accepting (Decline reason) = false

abbrev verdict_tail : Verdict → List (List ℕ)
verdict_tail Accept = []
verdict_tail (Decline None) = []
verdict_tail (Decline (Some reason)) = text_word reason ∷ []

abbrev IsSaid : Verdict → Type 0
IsSaid Accept = Unit {0}
IsSaid (Decline reason) = IfSome reason IsUtf8

record VerdictWords (accepting : Bool) (v : Verdict) (ws : List (List ℕ)) : Type 0 where
  kind : is_accepting v ≡ accepting
  ranges : IsSaid v
  spelled : ws ≡ verdict_tail v

decline : Option (List ℕ) → Verdict
decline reason = Decline reason

accept_to : (v : Verdict) (ws : List (List ℕ)) → Only Accept v ws → VerdictWords true v ws
accept_to v ws o = subst (λ (y : Verdict). VerdictWords true y ws) (sym o.value) (record { kind = refl; ranges = tt; spelled = o.words })

accept_from : (v : Verdict) (ws : List (List ℕ)) → VerdictWords true v ws → Only Accept v ws
accept_from Accept ws h = record { value = refl; words = h.spelled }
accept_from (Decline r) ws h = absurd (let e = h.kind in cc)

declined : (r : Option (List ℕ)) (ws : List (List ℕ)) → ReasonThen r ws → VerdictWords false (Decline r) ws
declined r ws (inl o) = subst (λ (y : Option (List ℕ)). VerdictWords false (Decline y) ws) (sym o.value) (record { kind = refl; ranges = tt; spelled = o.words })
declined r ws (inr t) = subst (λ (y : Option (List ℕ)). VerdictWords false (Decline y) ws) (sym t.others.value) (record { kind = refl; ranges = t.is.utf8; spelled = t.parts ∙ (λ i. t.is.spelled i ∷ t.others.words i) })

decline_to : (v : Verdict) (ws : List (List ℕ)) → Made decline ReasonThen v ws → VerdictWords false v ws
unfolding decline
decline_to v ws m = subst (λ (y : Verdict). VerdictWords false y ws) (sym m.is) (declined m.from ws m.words)

decline_from : (v : Verdict) (ws : List (List ℕ)) → VerdictWords false v ws → Made decline ReasonThen v ws
unfolding decline
decline_from Accept ws h = absurd (let e = h.kind in cc)
decline_from (Decline None) ws h = record { from = None; is = refl; words = inl (record { value = refl; words = h.spelled }) }
decline_from (Decline (Some r)) ws h = record { from = Some r; is = refl; words = inr (record { first = r; word = text_word r; rest = []; is = record { utf8 = h.ranges; spelled = refl }; parts = h.spelled; others = record { value = refl; words = refl } }) }

verdict_lawful : (accepting : Bool) (k : ℕ) → Lawful k Nothing (VerdictWords accepting) (verdict_at accepting)
unfolding decline
verdict_lawful true k = restated k Nothing (Only Accept) (VerdictWords true) (verdict_at true) (ending_lawful Accept k) accept_to accept_from
verdict_lawful false k = restated k Nothing (Made decline ReasonThen) (VerdictWords false) (verdict_at false) (made_lawful k Nothing ReasonThen reason_at decline (reason_lawful k)) decline_to decline_from

abbrev EndThen : Message → List (List ℕ) → Type 0
EndThen = WordThen IsNumber32 (λ session. WordThen (Spelled verdict_word) (λ accepting. Made (message.End session) (VerdictWords accepting)))

end_words : (v : Verdict) → verdict_words v ≡ verdict_word (is_accepting v) ∷ verdict_tail v
end_words Accept = refl
end_words (Decline None) = refl
end_words (Decline (Some reason)) = refl

is_verdict : (v : Verdict) → IsSaid v → IsVerdict v
is_verdict Accept h = tt
is_verdict (Decline r) h = h

is_said : (v : Verdict) → IsVerdict v → IsSaid v
is_said Accept h = tt
is_said (Decline r) h = h

end_to : (m : Message) (ws : List (List ℕ)) → EndThen m ws → NamedWords name.End m ws
end_to m ws t =
    let a = t.others in
    let d = a.others in
    let w : VerdictWords a.first d.from a.rest = d.words in
    let le : t.first ≤ 4294967295 = t.is.within in
    subst (λ (y : Message). NamedWords name.End y ws) (sym d.is) (record {
      kind = refl;
      whole = (omega arith, is_verdict d.from w.ranges);
      spelled = t.parts ∙ (λ i. t.is.digits i ∷ (a.parts ∙ (λ i. (a.is.spelled ∙ ap verdict_word (sym w.kind)) i ∷ w.spelled i) ∙ sym (end_words d.from)) i);
    })

end_from : (m : Message) (ws : List (List ℕ)) → NamedWords name.End m ws → EndThen m ws
end_from (message.End session v) ws h =
    let lt : session < 2 ^ 32 = h.whole.0 in
    record {
      first = session;
      word = decimal session;
      rest = verdict_words v;
      is = record { within = omega arith; digits = refl };
      parts = h.spelled;
      others = record {
        first = is_accepting v;
        word = verdict_word (is_accepting v);
        rest = verdict_tail v;
        is = record { spelled = refl };
        parts = end_words v;
        others = record { from = v; is = refl; words = record { kind = refl; ranges = is_said v h.whole.1; spelled = refl } };
      };
    }
end_from m ws h = absurd (let e = h.kind in cc)

end_lawful_message : (k : ℕ) → Lawful k Nothing (NamedWords name.End) end_message_at
unfolding end_message_at
end_lawful_message k = restated k Nothing EndThen (NamedWords name.End) _
    (word_then_all Nothing IsNumber32 (λ session. WordThen (Spelled verdict_word) (λ accepting. Made (message.End session) (VerdictWords accepting))) number32 _ number32_exact (λ session.
    word_then_all Nothing (Spelled verdict_word) (λ accepting. Made (message.End session) (VerdictWords accepting)) is_accept _ verdict_exact (λ accepting k.
    made_lawful k Nothing (VerdictWords accepting) (verdict_at accepting) (message.End session) (verdict_lawful accepting k))) k) end_to end_from

-- ---- wait

abbrev WaitThen : Message → List (List ℕ) → Type 0
WaitThen = WordThen IsNumber32 (λ session. WordThen IsNumber32 (λ millis. Only (message.Wait session millis)))

wait_to : (m : Message) (ws : List (List ℕ)) → WaitThen m ws → NamedWords name.Wait m ws
wait_to m ws t =
    let a = t.others in
    let le : t.first ≤ 4294967295 = t.is.within in
    let ge : a.first ≤ 4294967295 = a.is.within in
    subst (λ (y : Message). NamedWords name.Wait y ws) (sym a.others.value) (record {
      kind = refl;
      whole = (omega arith, omega arith);
      spelled = t.parts ∙ (λ i. t.is.digits i ∷ (a.parts ∙ (λ i. a.is.digits i ∷ a.others.words i)) i);
    })

wait_from : (m : Message) (ws : List (List ℕ)) → NamedWords name.Wait m ws → WaitThen m ws
wait_from (message.Wait session millis) ws h =
    let lt : session < 2 ^ 32 = h.whole.0 in
    let gt : millis < 2 ^ 32 = h.whole.1 in
    record {
      first = session;
      word = decimal session;
      rest = decimal millis ∷ [];
      is = record { within = omega arith; digits = refl };
      parts = h.spelled;
      others = record { first = millis; word = decimal millis; rest = []; is = record { within = omega arith; digits = refl }; parts = refl; others = record { value = refl; words = refl } };
    }
wait_from m ws h = absurd (let e = h.kind in cc)

wait_lawful : (k : ℕ) → Lawful k Nothing (NamedWords name.Wait) wait_at
unfolding wait_at
wait_lawful k = restated k Nothing WaitThen (NamedWords name.Wait) _
    (word_then_all Nothing IsNumber32 (λ session. WordThen IsNumber32 (λ millis. Only (message.Wait session millis))) number32 _ number32_exact (λ session.
    word_then_all Nothing IsNumber32 (λ millis. Only (message.Wait session millis)) number32 _ number32_exact (λ millis k.
    ending_lawful (message.Wait session millis) k)) k) wait_to wait_from

-- ---- flood

abbrev FloodThen : Message → List (List ℕ) → Type 0
FloodThen = WordThen IsNumber32 (λ session. WordThen IsAddressWord (λ initiator. WordThen IsNumber32 (λ ttl. Made (message.Flood session initiator ttl) PartsWords)))

flood_to : (m : Message) (ws : List (List ℕ)) → FloodThen m ws → NamedWords name.Flood m ws
flood_to m ws t =
    let a = t.others in
    let l = a.others in
    let d = l.others in
    let w : PartsWords d.from l.rest = d.words in
    let le : t.first ≤ 4294967295 = t.is.within in
    let ge : l.first ≤ 4294967295 = l.is.within in
    subst (λ (y : Message). NamedWords name.Flood y ws) (sym d.is) (record {
      kind = refl;
      whole = (omega arith, a.is.within, omega arith, w.ranges);
      spelled = t.parts ∙ (λ i. t.is.digits i ∷ (a.parts ∙ (λ i. a.is.spelled i ∷ (l.parts ∙ (λ i. l.is.digits i ∷ w.spelled i)) i)) i);
    })

flood_from : (m : Message) (ws : List (List ℕ)) → NamedWords name.Flood m ws → FloodThen m ws
flood_from (message.Flood session initiator ttl parts) ws h =
    let lt : session < 2 ^ 32 = h.whole.0 in
    let gt : ttl < 2 ^ 32 = h.whole.2 in
    record {
      first = session;
      word = decimal session;
      rest = _;
      is = record { within = omega arith; digits = refl };
      parts = h.spelled;
      others = record {
        first = initiator;
        word = address_word initiator;
        rest = _;
        is = record { within = h.whole.1; spelled = refl };
        parts = refl;
        others = record {
          first = ttl;
          word = decimal ttl;
          rest = all_flood_part_words parts;
          is = record { within = omega arith; digits = refl };
          parts = refl;
          others = record { from = parts; is = refl; words = record { ranges = h.whole.3; spelled = refl } };
        };
      };
    }
flood_from m ws h = absurd (let e = h.kind in cc)

flood_lawful : (k : ℕ) → Lawful k Nothing (NamedWords name.Flood) flood_at
unfolding flood_at
flood_lawful k = restated k Nothing FloodThen (NamedWords name.Flood) _
    (word_then_all Nothing IsNumber32 (λ session. WordThen IsAddressWord (λ initiator. WordThen IsNumber32 (λ ttl. Made (message.Flood session initiator ttl) PartsWords))) number32 _ number32_exact (λ session.
    word_then_all Nothing IsAddressWord (λ initiator. WordThen IsNumber32 (λ ttl. Made (message.Flood session initiator ttl) PartsWords)) address_of _ address_exact (λ initiator.
    word_then_all Nothing IsNumber32 (λ ttl. Made (message.Flood session initiator ttl) PartsWords) number32 _ number32_exact (λ ttl k.
    made_lawful k Nothing PartsWords flood_parts_at (message.Flood session initiator ttl) (flood_parts_lawful k)))) k) flood_to flood_from

-- ---- invalid

abbrev InvalidThen : Message → List (List ℕ) → Type 0
InvalidThen = WordThen IsNumber32 (λ session. WordThen IsMaybeValue (λ detail. Only (message.Invalid session detail)))

invalid_to : (m : Message) (ws : List (List ℕ)) → InvalidThen m ws → NamedWords name.Invalid m ws
invalid_to m ws t =
    let a = t.others in
    let told = told_value a.first a.word a.is in
    let le : t.first ≤ 4294967295 = t.is.within in
    subst (λ (y : Message). NamedWords name.Invalid y ws) (sym a.others.value) (record {
      kind = refl;
      whole = (omega arith, told.ranges);
      spelled = t.parts ∙ (λ i. t.is.digits i ∷ (a.parts ∙ (λ i. told.spelled i ∷ a.others.words i)) i);
    })

invalid_from : (m : Message) (ws : List (List ℕ)) → NamedWords name.Invalid m ws → InvalidThen m ws
invalid_from (message.Invalid session detail) ws h =
    let lt : session < 2 ^ 32 = h.whole.0 in
    record {
      first = session;
      word = decimal session;
      rest = or_dash value_word detail ∷ [];
      is = record { within = omega arith; digits = refl };
      parts = h.spelled;
      others = record {
        first = detail;
        word = or_dash value_word detail;
        rest = [];
        parts = refl;
        is = value_told detail (or_dash value_word detail) (record { ranges = h.whole.1; spelled = refl });
        others = record { value = refl; words = refl };
      };
    }
invalid_from m ws h = absurd (let e = h.kind in cc)

invalid_lawful : (k : ℕ) → Lawful k Nothing (NamedWords name.Invalid) invalid_at
unfolding invalid_at
invalid_lawful k = restated k Nothing InvalidThen (NamedWords name.Invalid) _
    (word_then_all Nothing IsNumber32 (λ session. WordThen IsMaybeValue (λ detail. Only (message.Invalid session detail))) number32 _ number32_exact (λ session.
    word_then_all Nothing IsMaybeValue (λ detail. Only (message.Invalid session detail)) (maybe_of value_of) _ maybe_value_exact (λ detail k.
    ending_lawful (message.Invalid session detail) k)) k) invalid_to invalid_from

-- ---- all messages

named_lawful : (n : MessageName) (k : ℕ) → Lawful k Nothing (NamedWords n) (named_at n)
unfolding req_neg req_syn negotiate synch
named_lawful name.Noop k = restated k Nothing (Only message.Noop) (NamedWords name.Noop) (named_at name.Noop) (ending_lawful message.Noop k) noop_to noop_from
named_lawful name.Discovery k = discovery_lawful k
named_lawful name.Response k = response_lawful k
named_lawful name.RequestNegotiation k = restated k Nothing (Made req_neg PairWords) (NamedWords name.RequestNegotiation) (named_at name.RequestNegotiation) (made_lawful k Nothing PairWords objective_of_session_at req_neg (pair_lawful k)) req_neg_to req_neg_from
named_lawful name.RequestSynchronization k = restated k Nothing (Made req_syn PairWords) (NamedWords name.RequestSynchronization) (named_at name.RequestSynchronization) (made_lawful k Nothing PairWords objective_of_session_at req_syn (pair_lawful k)) req_syn_to req_syn_from
named_lawful name.Negotiate k = restated k Nothing (Made negotiate PairWords) (NamedWords name.Negotiate) (named_at name.Negotiate) (made_lawful k Nothing PairWords objective_of_session_at negotiate (pair_lawful k)) negotiate_to negotiate_from
named_lawful name.End k = end_lawful_message k
named_lawful name.Wait k = wait_lawful k
named_lawful name.Synch k = restated k Nothing (Made synch PairWords) (NamedWords name.Synch) (named_at name.Synch) (made_lawful k Nothing PairWords objective_of_session_at synch (pair_lawful k)) synch_to synch_from
named_lawful name.Flood k = flood_lawful k
named_lawful name.Invalid k = invalid_lawful k

-- the words of this message
pub record MessageWords (m : Message) (ws : List (List ℕ)) : Type 0 where
  pub whole : IsMessage m
  pub spelled : ws ≡ message_words m

abbrev NameThen : Message → List (List ℕ) → Type 0
NameThen = WordThen (Spelled name_word) NamedWords

message_to : (m : Message) (ws : List (List ℕ)) → NameThen m ws → MessageWords m ws
message_to m ws t =
    let n = t.others in
    record { whole = n.whole; spelled = t.parts ∙ (λ i. (t.is.spelled ∙ ap name_word (sym n.kind)) i ∷ n.spelled i) ∙ sym (message_all m) }

message_from : (m : Message) (ws : List (List ℕ)) → MessageWords m ws → NameThen m ws
message_from m ws w = record {
  first = message_name m;
  word = name_word (message_name m);
  rest = message_tail m;
  is = record { spelled = refl };
  parts = w.spelled ∙ message_all m;
  others = record { kind = refl; whole = w.whole; spelled = refl };
}

pub message_lawful : (k : ℕ) → Lawful k Nothing MessageWords message_at
unfolding message_at
message_lawful k = restated k Nothing NameThen MessageWords _ (word_then_all Nothing (Spelled name_word) NamedWords name_of _ name_exact named_lawful k) message_to message_from
