-- The moves of a stream that a node makes are moves of an end of a talk.
use Rattle.std.proofs.Common.{Some, None, ◌≡◌, ℕ, Bool, true, false, List, [], ◌∷◌, ◌++◌, reverse, ◌⊎◌, inl, inr, Option, refl, sym, ap, ◌∙◌, subst}
use Rattle.std.proofs.lemmas.Bool.{true≢false, cond-false}
use Rattle.grasp_types.specs.declared.message.Message.{Message}
use Rattle.grasp_types.specs.declared.message.Message.TheVariants.{ReqNeg, Noop}
use Rattle.grasp_types.specs.declared.objective.Objective.{Objective}
use Rattle.grasp_types.specs.declared.session.Kind.TheVariants.{Negotiation}
use Rattle.grasp_laws_session.proofs.Ends.{none_bad}
use Rattle.grasp_laws_session.proofs.Firsts.{first_is_request}
use Rattle.grasp_laws_session.proofs.Inboxes.{absent_took}
use Rattle.grasp_laws_session.proofs.Reaching.{in_order, requester_is_present}
use Rattle.grasp_laws_session.proofs.Ends.{sound}
use Rattle.grasp_session.specs.Conversation.{Said, says, spoken, strip, begun}
use Rattle.grasp_session.specs.Laws.{IsOpened}
use Rattle.grasp_session.specs.Messages.{Side, Near, Far, other}
use Rattle.grasp_session.specs.Talk.{Cause, mark_of, Stage, Absent, Refused, Present, Party, Talk, party, in_stage, having_taken, Move, run, Reached}
use Rattle.grasp_session.specs.Transcript.{Transcript, opening, Saying, having_said, marked, is_going, receive, receive_going, after_heard}
use Rattle.grasp_session.specs.declared.answer.Received.{Received}
use Rattle.grasp_session.specs.declared.answer.Received.TheVariants.{Kept, Ignored, Bad}
use Rattle.grasp_laws_node_stories.specs.StreamMoves.{StreamMove, Asks, Listens, Refuses, Says, Hears, Skips, Faults, Marks, Passes, Responds, after_move, said_by, heard_by, heard_in, is_dial, is_fault, is_last_move, some_move, MayPass, MayMoves}
use Rattle.grasp_laws_negotiation.proofs.TalkMoves.{listened, declined, said_so, heard_so, marked_so}

-- an end stands as its transcript says
abbrev pub Fits : Option Transcript → Stage → Type 0
Fits (Some v) stage = stage ≡ Present v
Fits None stage = (stage ≡ Absent) ⊎ (stage ≡ Refused)

-- a conversation to which a side adds these messages, one after the other
abbrev pub onto : Side → List Message → List Said → List Said
onto side [] c = c
onto side (m ∷ ms) c = onto side ms (says side m ∷ c)

-- an end of a talk may make these moves of its stream
pub record Able (side : Side) (t : Talk) (v : Option Transcript) (ms : List StreamMove) : Type 0 where
  pub fits : Fits v (party t side).stage
  pub may : MayMoves v ms
  pub no_fault : some_move is_fault ms ≡ false
  pub no_dial : some_move is_dial ms ≡ false
  pub left : List Message
  pub ahead : (party t side).inbox ≡ heard_in ms ++ left
  pub awake : (party t side).stage ≡ Refused → heard_in ms ≡ []

-- an end of a talk makes one move of its stream, and may make the others then
pub record Stepped (side : Side) (t : Talk) (v : Option Transcript) (m : StreamMove) (ms : List StreamMove) : Type 0 where
  pub talk : Talk
  pub reached : Reached talk
  pub moves : List Move
  pub ran : talk ≡ run t moves
  pub said_is : talk.said ≡ onto side (said_by v m) t.said
  pub able : Able side talk (after_move v m) ms
  pub taken_is : is_last_move m ≡ false → (party talk side).taken ≡ reverse (heard_by m) ++ (party t side).taken
  pub awake_is : is_last_move m ≡ false → (party talk side).stage ≡ Refused → (party t side).stage ≡ Refused
  pub other_stage : (party talk (other side)).stage ≡ (party t (other side)).stage
  pub other_taken : (party talk (other side)).taken ≡ (party t (other side)).taken

pub cons_nil : {A : Type 0} (x : A) (xs : List A) → x ∷ xs ≡ [] → ⊥
cons_nil x xs e = cc

same_head : (x y : Message) (xs ys : List Message) → x ∷ xs ≡ y ∷ ys → x ≡ y
same_head x y xs ys e = cc

-- ---- with a session

present_refused : (v : Transcript) (stage : Stage) → stage ≡ Present v → stage ≡ Refused → ⊥
present_refused v stage e f = cc

-- an end with a session didn't decline without one
present_awake : (v : Transcript) (side : Side) (t : Talk) (mine : Party) → party t side ≡ mine → mine.stage ≡ Present v → (party t side).stage ≡ Refused → ⊥
present_awake v side t mine e p f = present_refused v (party t side).stage (ap (λ (q : Party). q.stage) e ∙ p) f

goes_on : (side : Side) (t : Talk) (v : Transcript) (ms : List StreamMove) (left : List Message) (mine : Party) → party t side ≡ mine → mine.stage ≡ Present v → MayMoves (Some v) ms
    → some_move is_fault ms ≡ false → some_move is_dial ms ≡ false → mine.inbox ≡ heard_in ms ++ left → Able side t (Some v) ms
goes_on side t v ms left mine e stage may fault dial ahead = record {
  fits = ap (λ (p : Party). p.stage) e ∙ stage;
  may = may;
  no_fault = fault;
  no_dial = dial;
  left = left;
  ahead = ap (λ (p : Party). p.inbox) e ∙ ahead;
  awake = λ f. absurd (present_refused v (party t side).stage (ap (λ (p : Party). p.stage) e ∙ stage) f);
}

says_step : (side : Side) (t : Talk) (v : Transcript) (now : ℕ) (s : Saying) (ms : List StreamMove) → Reached t → Able side t (Some v) (Says now s ∷ ms) → Stepped side t (Some v) (Says now s) ms
says_step side t v now s ms r a =
    let c = said_so t side now s v r a.fits a.may.0 in
    record {
      talk = c.talk;
      reached = c.reached;
      moves = c.moves;
      ran = c.ran;
      said_is = c.said_is;
      able = goes_on side c.talk (having_said v now s) ms a.left (in_stage (party t side) (Present (having_said v now s))) c.mine_is refl a.may.2 a.no_fault a.no_dial a.ahead;
      awake_is = λ _ f. absurd (present_awake (having_said v now s) side c.talk (in_stage (party t side) (Present (having_said v now s))) c.mine_is refl f);
      taken_is = λ _. ap (λ (p : Party). p.taken) c.mine_is;
      other_stage = c.other_stage;
      other_taken = c.other_taken;
    }

marks_step : (side : Side) (t : Talk) (v : Transcript) (cause : Cause) (ms : List StreamMove) → Reached t → Able side t (Some v) (Marks cause ∷ ms) → Stepped side t (Some v) (Marks cause) ms
marks_step side t v cause ms r a =
    let c = marked_so t side cause v r a.fits in
    record {
      talk = c.talk;
      reached = c.reached;
      moves = c.moves;
      ran = c.ran;
      said_is = c.said_is;
      able = goes_on side c.talk (marked v (mark_of cause)) ms a.left (in_stage (party t side) (Present (marked v (mark_of cause)))) c.mine_is refl a.may.2 a.no_fault a.no_dial a.ahead;
      awake_is = λ _ f. absurd (present_awake (marked v (mark_of cause)) side c.talk (in_stage (party t side) (Present (marked v (mark_of cause)))) c.mine_is refl f);
      taken_is = λ _. ap (λ (p : Party). p.taken) c.mine_is;
      other_stage = c.other_stage;
      other_taken = c.other_taken;
    }

-- between ends that keep to the protocol nothing that is heard is bad
not_bad : (side : Side) (t : Talk) (v : Transcript) (m : Message) (left : List Message) → Reached t → (party t side).stage ≡ Present v → (party t side).inbox ≡ m ∷ left → receive v m ≡ Bad → ⊥
not_bad side t v m left r e i bad = by_going (is_going v) refl where
  by_going : (b : Bool) → is_going v ≡ b → ⊥
  by_going true g = let k : receive v m ≡ Kept = none_bad t r side v m left e i g in kept_bad (receive v m) k bad where
    kept_bad : (x : Received) → x ≡ Kept → x ≡ Bad → ⊥
    kept_bad x p q = cc
  by_going false g = ignored_bad (receive v m) (cond-false (is_going v) (receive_going v m) Ignored g) bad where
    ignored_bad : (x : Received) → x ≡ Ignored → x ≡ Bad → ⊥
    ignored_bad x p q = cc

hears_step : (side : Side) (t : Talk) (v : Transcript) (now : ℕ) (m : Message) (told : Bool) (ms : List StreamMove) → Reached t → Able side t (Some v) (Hears now m told ∷ ms) → Stepped side t (Some v) (Hears now m told) ms
hears_step side t v now m true ms r a = absurd (not_bad side t v m (heard_in ms ++ a.left) r a.fits a.ahead (a.may.0 refl))
hears_step side t v now m false ms r a =
    let c = heard_so t side now v m (heard_in ms ++ a.left) r a.fits a.ahead in
    record {
      talk = c.talk;
      reached = c.reached;
      moves = c.moves;
      ran = c.ran;
      said_is = c.said_is;
      able = goes_on side c.talk (after_heard v now m (receive v m)) ms a.left (having_taken (party t side) m (heard_in ms ++ a.left) (Present (after_heard v now m (receive v m)))) c.mine_is refl a.may.2 a.no_fault a.no_dial refl;
      awake_is = λ _ f. absurd (present_awake (after_heard v now m (receive v m)) side c.talk (having_taken (party t side) m (heard_in ms ++ a.left) (Present (after_heard v now m (receive v m)))) c.mine_is refl f);
      taken_is = λ _. ap (λ (p : Party). p.taken) c.mine_is;
      other_stage = c.other_stage;
      other_taken = c.other_taken;
    }

present_step : (side : Side) (t : Talk) (v : Transcript) (m : StreamMove) (ms : List StreamMove) → Reached t → Able side t (Some v) (m ∷ ms) → Stepped side t (Some v) m ms
present_step side t v (Says now s) ms r a = says_step side t v now s ms r a
present_step side t v (Hears now m told) ms r a = hears_step side t v now m told ms r a
present_step side t v (Faults told) ms r a = absurd (true≢false a.no_fault)
present_step side t v (Marks cause) ms r a = marks_step side t v cause ms r a
present_step side t v _ ms r a = absurd a.may.0

-- ---- without one

-- where near has no session nothing was said
unsaid : (t : Talk) → Reached t → Fits None t.near.stage → t.said ≡ []
unsaid t r f = by_begun (begun (strip t.said)) refl where
  absent_present : (v : Transcript) (stage : Stage) → (stage ≡ Absent) ⊎ (stage ≡ Refused) → stage ≡ Present v → ⊥
  absent_present v stage (inl p) q = cc
  absent_present v stage (inr p) q = cc

  none_begun : (c : List Said) → begun c ≡ false → c ≡ []
  none_begun [] e = refl
  none_begun (x ∷ c) e = absurd (true≢false e)

  by_begun : (b : Bool) → begun (strip t.said) ≡ b → t.said ≡ []
  by_begun true e = let p = requester_is_present t r e in absurd (absent_present p.0 t.near.stage f p.1)
  by_begun false e = none_begun t.said ((sound t r).last.opened ∙ e)

-- nothing comes to a near end that has no session
near_hears_nothing : (t : Talk) → Reached t → Fits None t.near.stage → t.near.inbox ≡ []
near_hears_nothing t r f = append_end (reverse t.near.taken) t.near.inbox (sym (in_order t r Near) ∙ ap (λ (c : List Said). reverse (spoken Far c)) (unsaid t r f)) where
  append_end : (xs ys : List Message) → xs ++ ys ≡ [] → ys ≡ []
  append_end [] ys e = e
  append_end (x ∷ xs) ys e = absurd (cons_nil x (xs ++ ys) e)

-- the first message that comes to a far end that has no session yet is a request for negotiation
far_hears_request : (t : Talk) → Reached t → t.far.stage ≡ Absent → (m : Message) (rest : List Message) → t.far.inbox ≡ m ∷ rest → (session : ℕ) × (o : Objective) × (m ≡ ReqNeg session o)
far_hears_request t r e m rest i =
    by_opened (first_is_request t r) (in_order t r Far ∙ (ap (λ (l : List Message). reverse l ++ t.far.inbox) (absent_took t r Far e) ∙ i)) where
      by_opened : IsOpened (reverse (spoken Near t.said)) → reverse (spoken Near t.said) ≡ m ∷ rest → (session : ℕ) × (o : Objective) × (m ≡ ReqNeg session o)
      by_opened (inl n) f = absurd (cons_nil m rest (sym f ∙ n))
      by_opened (inr p) f = (p.0, p.1, same_head m (ReqNeg p.0 p.1) rest p.2 (sym f ∙ p.3))

far_wakes : (t : Talk) (m : StreamMove) (ms : List StreamMove) (x : Message) (xs : List Message) → Able Far t None (m ∷ ms) → heard_in (m ∷ ms) ≡ x ∷ xs → t.far.stage ≡ Absent
far_wakes t m ms x xs a e = by_stage a.fits where
  by_stage : (t.far.stage ≡ Absent) ⊎ (t.far.stage ≡ Refused) → t.far.stage ≡ Absent
  by_stage (inl p) = p
  by_stage (inr p) = absurd (cons_nil x xs (sym e ∙ a.awake p))

listens_step : (t : Talk) (now timeout session : ℕ) (o : Objective) (ms : List StreamMove) → Reached t → Able Far t None (Listens now timeout session o ∷ ms) → Stepped Far t None (Listens now timeout session o) ms
listens_step t now timeout session o ms r a =
    let c = listened t now timeout session o (heard_in ms ++ a.left) r (far_wakes t (Listens now timeout session o) ms (ReqNeg session o) (heard_in ms) a refl) a.ahead in
    record {
      talk = c.talk;
      reached = c.reached;
      moves = c.moves;
      ran = c.ran;
      said_is = c.said_is;
      able = goes_on Far c.talk (opening Negotiation Far timeout now session o) ms a.left (having_taken t.far (ReqNeg session o) (heard_in ms ++ a.left) (Present (opening Negotiation Far timeout now session o))) c.mine_is refl a.may.2 a.no_fault a.no_dial refl;
      awake_is = λ _ f. absurd (present_awake (opening Negotiation Far timeout now session o) Far c.talk (having_taken t.far (ReqNeg session o) (heard_in ms ++ a.left) (Present (opening Negotiation Far timeout now session o))) c.mine_is refl f);
      taken_is = λ _. ap (λ (p : Party). p.taken) c.mine_is;
      other_stage = c.other_stage;
      other_taken = c.other_taken;
    }

-- behind a last move there is none
ends_so : (side : Side) (t : Talk) (ms : List StreamMove) → Fits None (party t side).stage → MayMoves None ms → ms ≡ [] → Able side t None ms
ends_so side t ms f may e = subst (λ (l : List StreamMove). Able side t None l) (sym e) (record {
  fits = f;
  may = tt;
  no_fault = refl;
  no_dial = refl;
  left = (party t side).inbox;
  ahead = refl;
  awake = λ _. refl;
})

refuses_step : (t : Talk) (session : ℕ) (o : Objective) (reason : Option (List ℕ)) (ms : List StreamMove) → Reached t → Able Far t None (Refuses session o reason ∷ ms) → Stepped Far t None (Refuses session o reason) ms
refuses_step t session o reason ms r a =
    let c = declined t session o reason (heard_in ms ++ a.left) r (far_wakes t (Refuses session o reason) ms (ReqNeg session o) (heard_in ms) a refl) a.ahead in
    record {
      talk = c.talk;
      reached = c.reached;
      moves = c.moves;
      ran = c.ran;
      said_is = c.said_is;
      able = ends_so Far c.talk ms (inr (ap (λ (p : Party). p.stage) c.mine_is)) a.may.2 (a.may.1 refl);
      taken_is = λ e. absurd (true≢false e);
      awake_is = λ e f. absurd (true≢false e);
      other_stage = c.other_stage;
      other_taken = c.other_taken;
    }

-- a request that is passed is passed in silence
passes_step : (t : Talk) (m : Message) (said : List Message) (ms : List StreamMove) → Reached t → Able Far t None (Passes m said ∷ ms) → Stepped Far t None (Passes m said) ms
passes_step t m said ms r a =
    let q = far_hears_request t r (far_wakes t (Passes m said) ms m (heard_in ms) a refl) m (heard_in ms ++ a.left) a.ahead in
    let silent : said ≡ [] = subst (λ (x : Message). MayPass x said) q.2 a.may.0 in
    record {
      talk = t;
      reached = r;
      moves = [];
      ran = refl;
      said_is = ap (λ (l : List Message). onto Far l t.said) (sym silent);
      able = ends_so Far t ms a.fits a.may.2 (a.may.1 refl);
      taken_is = λ e. absurd (true≢false e);
      awake_is = λ e f. absurd (true≢false e);
      other_stage = refl;
      other_taken = refl;
    }

no_noop : (session : ℕ) (o : Objective) → Noop ≡ ReqNeg session o → ⊥
no_noop session o e = cc

far_step : (t : Talk) (m : StreamMove) (ms : List StreamMove) → Reached t → Able Far t None (m ∷ ms) → Stepped Far t None m ms
far_step t (Asks now timeout session kind o) ms r a = absurd (true≢false a.no_dial)
far_step t (Listens now timeout session o) ms r a = listens_step t now timeout session o ms r a
far_step t (Refuses session o reason) ms r a = refuses_step t session o reason ms r a
far_step t Skips ms r a = let q = far_hears_request t r (far_wakes t Skips ms Noop (heard_in ms) a refl) Noop (heard_in ms ++ a.left) a.ahead in absurd (no_noop q.0 q.1 q.2)
far_step t (Passes m said) ms r a = passes_step t m said ms r a
far_step t (Responds m) ms r a = absurd (true≢false a.no_dial)
far_step t _ ms r a = absurd a.may.0

near_deaf : (t : Talk) (m : StreamMove) (ms : List StreamMove) (x : Message) (xs : List Message) → Reached t → (a : Able Near t None (m ∷ ms)) → heard_in (m ∷ ms) ++ a.left ≡ x ∷ xs → ⊥
near_deaf t m ms x xs r a e = cons_nil x xs (sym e ∙ (sym a.ahead ∙ near_hears_nothing t r a.fits))

near_step : (t : Talk) (m : StreamMove) (ms : List StreamMove) → Reached t → Able Near t None (m ∷ ms) → Stepped Near t None m ms
near_step t (Asks now timeout session kind o) ms r a = absurd (true≢false a.no_dial)
near_step t (Listens now timeout session o) ms r a = absurd (near_deaf t (Listens now timeout session o) ms (ReqNeg session o) (heard_in ms ++ a.left) r a refl)
near_step t (Refuses session o reason) ms r a = absurd (near_deaf t (Refuses session o reason) ms (ReqNeg session o) (heard_in ms ++ a.left) r a refl)
near_step t Skips ms r a = absurd (near_deaf t Skips ms Noop (heard_in ms ++ a.left) r a refl)
near_step t (Passes m said) ms r a = absurd (near_deaf t (Passes m said) ms m (heard_in ms ++ a.left) r a refl)
near_step t (Responds m) ms r a = absurd (true≢false a.no_dial)
near_step t _ ms r a = absurd a.may.0

pub step : (side : Side) (t : Talk) (v : Option Transcript) (m : StreamMove) (ms : List StreamMove) → Reached t → Able side t v (m ∷ ms) → Stepped side t v m ms
step side t (Some v) m ms r a = present_step side t v m ms r a
step Near t None m ms r a = near_step t m ms r a
step Far t None m ms r a = far_step t m ms r a
