-- What the first moves of a stream tell: which end of its session the node is, and what near said first.
use Rattle.std.proofs.Common.{◌≡◌, refl, sym, ap, ◌∙◌, subst, ℕ, ◌||◌, Bool, true, false, cond, List, [], ◌∷◌, ◌++◌, None, Some}
use Rattle.std.proofs.lemmas.Bool.{true≢false, false≢true}
use Rattle.std.proofs.lemmas.Option.{none-some}
use Rattle.grasp_session.specs.Messages.{Near, Far}
use Rattle.grasp_session.specs.Talk.{mark_of}
use Rattle.grasp_session.specs.Transcript.{Transcript, Mark, Faulty, opening, request_message, is_going, having_said, receive, after_heard, with_mark, marked}
use Rattle.grasp_session.specs.declared.answer.Received.{Received}
use Rattle.grasp_session.specs.declared.answer.Received.TheVariants.{Kept}
use Rattle.grasp_types.specs.declared.message.Message.{Message}
use Rattle.grasp_types.specs.declared.message.Message.TheVariants.{Noop, ReqNeg}
use Rattle.grasp_types.specs.declared.objective.Objective.{Objective}
use Rattle.grasp_types.specs.declared.session.Kind.{Kind}
use Rattle.grasp_types.specs.declared.session.Kind.TheVariants.{Negotiation, Synchronization}
use Rattle.grasp_laws_network.specs.Keeping.{IsLonger}
use Rattle.grasp_laws_negotiation.proofs.TalkSteps.{cons_nil}
use Rattle.grasp_laws_node_stories.specs.StreamMoves.{StreamMove, Asks, Listens, Refuses, Says, Hears, Skips, Faults, Marks, Passes, Responds, after_move, after_moves, said_in, heard_in, is_dial, is_last_move, some_move, MayMoves, IsResponse}

-- ---- what near says first

-- a request of this kind comes first
pub record Asked (kind : Kind) (said : List Message) : Type 0 where
  pub session : ℕ
  pub objective : Objective
  pub rest : List Message
  pub is : said ≡ request_message kind session objective ∷ rest

-- the message isn't a noop
abbrev pub IsSpeech : Message → Type 0
IsSpeech Noop = ⊥
IsSpeech _ = Unit {0}

-- the first message, if there is one, isn't a noop
abbrev pub FirstSpeaks : List Message → Type 0
FirstSpeaks [] = Unit {0}
FirstSpeaks (m ∷ ms) = IsSpeech m

pub first_both : (a c : List Message) → FirstSpeaks a → (a ≡ [] → c ≡ []) → FirstSpeaks (a ++ c)
first_both [] c f none = subst FirstSpeaks (sym (none refl)) tt
first_both (m ∷ a) c f none = f

pub asked_more : (kind : Kind) (said more : List Message) → Asked kind said → Asked kind (said ++ more)
asked_more kind said more a = record { session = a.session; objective = a.objective; rest = a.rest ++ more; is = ap (λ (l : List Message). l ++ more) a.is }

pub asked_some : (kind : Kind) (said : List Message) → Asked kind said → said ≡ [] → ⊥
asked_some kind said a none = cons_nil (request_message kind a.session a.objective) a.rest (sym a.is ∙ none)

-- ---- the moves of a session keep its role and its kind

-- the transcript after some moves
pub record Goes (v : Transcript) (ms : List StreamMove) : Type 0 where
  pub view : Transcript
  pub is : after_moves (Some v) ms ≡ Some view
  pub role : view.role ≡ v.role
  pub kind : view.kind ≡ v.kind

goes_then : (v u : Transcript) (m : StreamMove) (ms : List StreamMove) → after_move (Some v) m ≡ Some u → u.role ≡ v.role → u.kind ≡ v.kind → Goes u ms → Goes v (m ∷ ms)
goes_then v u m ms e role kind g = record { view = g.view; is = ap (λ o. after_moves o ms) e ∙ g.is; role = g.role ∙ role; kind = g.kind ∙ kind }

heard_role : (v : Transcript) (now : ℕ) (m : Message) (r : Received) → (after_heard v now m r).role ≡ v.role
heard_role v now m Kept = refl
heard_role v now m _ = refl

heard_kind : (v : Transcript) (now : ℕ) (m : Message) (r : Received) → (after_heard v now m r).kind ≡ v.kind
heard_kind v now m Kept = refl
heard_kind v now m _ = refl

marked_role : (v : Transcript) (mark : Mark) → (marked v mark).role ≡ v.role
marked_role v mark = by_test (is_going v) where
  by_test : (b : Bool) → (cond b (with_mark v mark) v).role ≡ v.role
  by_test true = refl
  by_test false = refl

marked_kind : (v : Transcript) (mark : Mark) → (marked v mark).kind ≡ v.kind
marked_kind v mark = by_test (is_going v) where
  by_test : (b : Bool) → (cond b (with_mark v mark) v).kind ≡ v.kind
  by_test true = refl
  by_test false = refl

pub goes : (ms : List StreamMove) (v : Transcript) → MayMoves (Some v) ms → Goes v ms
goes [] v may = record { view = v; is = refl; role = refl; kind = refl }
goes (Says now saying ∷ ms) v may = let u : Transcript = having_said v now saying in goes_then v u (Says now saying) ms refl refl refl (goes ms u may.2)
goes (Hears now m told ∷ ms) v may =
    let u : Transcript = after_heard v now m (receive v m) in goes_then v u (Hears now m told) ms refl (heard_role v now m (receive v m)) (heard_kind v now m (receive v m)) (goes ms u may.2)
goes (Faults told ∷ ms) v may = let u : Transcript = marked v Faulty in goes_then v u (Faults told) ms refl (marked_role v Faulty) (marked_kind v Faulty) (goes ms u may.2)
goes (Marks cause ∷ ms) v may = let u : Transcript = marked v (mark_of cause) in goes_then v u (Marks cause) ms refl (marked_role v (mark_of cause)) (marked_kind v (mark_of cause)) (goes ms u may.2)
goes (_ ∷ ms) v may = absurd may.0

pub some_same : (a b : Transcript) → Some a ≡ Some b → a ≡ b
some_same a b e = cc

-- ---- a stream that is dialled

pub record Dials (ms : List StreamMove) : Type 0 where
  pub speaks : FirstSpeaks (said_in None ms)
  pub asked : (v : Transcript) → after_moves None ms ≡ Some v → (v.role ≡ Near) × Asked v.kind (said_in None ms)
  pub seen : some_move is_last_move ms ≡ false → some_move is_dial ms ≡ true → (v : Transcript) × (after_moves None ms ≡ Some v)

request_speaks : (kind : Kind) (session : ℕ) (o : Objective) → IsSpeech (request_message kind session o)
request_speaks Negotiation session o = tt
request_speaks Synchronization session o = tt

response_speaks : (m : Message) → IsResponse m → IsSpeech m
response_speaks Noop r = absurd r
response_speaks _ r = tt

asks_so : (now timeout session : ℕ) (kind : Kind) (o : Objective) (ms : List StreamMove) → MayMoves (Some (opening kind Near timeout now session o)) ms → Dials (Asks now timeout session kind o ∷ ms)
asks_so now timeout session kind o ms may = record {
  speaks = request_speaks kind session o;
  asked = λ v e. let same : g.view ≡ v = some_same g.view v (sym g.is ∙ e) in
      (ap (λ (u : Transcript). u.role) (sym same) ∙ g.role, record { session = session; objective = o; rest = said_in (Some first) ms; is = ap (λ (k : Kind). request_message k session o ∷ said_in (Some first) ms) (sym g.kind ∙ ap (λ (u : Transcript). u.kind) same) });
  seen = λ last dials. (g.view, g.is);
} where
  first : Transcript
  first = opening kind Near timeout now session o

  g : Goes (opening kind Near timeout now session o) ms
  g = goes ms (opening kind Near timeout now session o) may

pub dials : (ms : List StreamMove) → MayMoves None ms → heard_in ms ≡ [] → Dials ms
dials [] may heard = record { speaks = tt; asked = λ v e. absurd (none-some v e); seen = λ last d. absurd (false≢true d) }
dials (Asks now timeout session kind o ∷ ms) may heard = asks_so now timeout session kind o ms may.2
dials (Listens now timeout session o ∷ ms) may heard = absurd (cons_nil (ReqNeg session o) (heard_in ms) heard)
dials (Refuses session o reason ∷ ms) may heard = absurd (cons_nil (ReqNeg session o) (heard_in ms) heard)
dials (Skips ∷ ms) may heard = absurd (cons_nil Noop (heard_in ms) heard)
dials (Passes m said ∷ ms) may heard = absurd (cons_nil m (heard_in ms) heard)
dials (Responds m ∷ ms) may heard = record {
  speaks = response_speaks m may.0;
  asked = λ v e. absurd (none-some v (sym (ap (after_moves None) (may.1 refl)) ∙ e));
  seen = λ last d. absurd (true≢false last);
}
dials (_ ∷ ms) may heard = absurd may.0

-- ---- a stream on which this is heard of what near said

pub record Listening (ms : List StreamMove) (said : List Message) : Type 0 where
  pub asked : (v : Transcript) → after_moves None ms ≡ Some v → (v.role ≡ Far) × Asked Negotiation said
  pub unheard : some_move is_last_move ms ≡ false → after_moves None ms ≡ None → heard_in ms ≡ []

listens_so : (now timeout session : ℕ) (o : Objective) (ms : List StreamMove) (said rest : List Message) → MayMoves (Some (opening Negotiation Far timeout now session o)) ms
    → said ≡ (ReqNeg session o ∷ heard_in ms) ++ rest → Listening (Listens now timeout session o ∷ ms) said
listens_so now timeout session o ms said rest may front = record {
  asked = λ v e. (ap (λ (u : Transcript). u.role) (sym (some_same g.view v (sym g.is ∙ e))) ∙ g.role, record { session = session; objective = o; rest = heard_in ms ++ rest; is = front });
  unheard = λ last e. absurd (none-some g.view (sym e ∙ g.is));
} where
  g : Goes (opening Negotiation Far timeout now session o) ms
  g = goes ms (opening Negotiation Far timeout now session o) may

-- a last move leaves no session
lasts_so : (m : StreamMove) (ms : List StreamMove) (said : List Message) → after_move None m ≡ None → is_last_move m ≡ true → ms ≡ [] → Listening (m ∷ ms) said
lasts_so m ms said after last none = record {
  asked = λ v e. absurd (none-some v (sym (ap (λ o. after_moves o ms) after ∙ ap (after_moves None) none) ∙ e));
  unheard = λ more e. absurd (true≢false (sym (ap (λ b. b || some_move is_last_move ms) last) ∙ more));
}

pub listening : (ms : List StreamMove) (said : List Message) → MayMoves None ms → some_move is_dial ms ≡ false → FirstSpeaks said → IsLonger (heard_in ms) said → Listening ms said
listening [] said may dial speaks front = record { asked = λ v e. absurd (none-some v e); unheard = λ last e. refl }
listening (Asks now timeout session kind o ∷ ms) said may dial speaks front = absurd (true≢false dial)
listening (Listens now timeout session o ∷ ms) said may dial speaks front = listens_so now timeout session o ms said front.0 may.2 front.1
listening (Refuses session o reason ∷ ms) said may dial speaks front = lasts_so (Refuses session o reason) ms said refl refl (may.1 refl)
listening (Skips ∷ ms) said may dial speaks front = absurd (subst FirstSpeaks front.1 speaks)
listening (Passes m told ∷ ms) said may dial speaks front = lasts_so (Passes m told) ms said refl refl (may.1 refl)
listening (Responds m ∷ ms) said may dial speaks front = absurd (true≢false dial)
listening (_ ∷ ms) said may dial speaks front = absurd may.0
