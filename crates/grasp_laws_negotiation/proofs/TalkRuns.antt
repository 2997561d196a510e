-- The moves of both ends of a talk in one step, in the order in which their messages are said.
use Rattle.std.proofs.Common.{Some, None, ◌≡◌, ◌≤◌, true, false, ◌||◌, List, [], ◌∷◌, ◌++◌, reverse, length, Option, refl, sym, ap, ◌∙◌, subst, append_assoc, arith}
use Rattle.std.proofs.lemmas.Bool.{cond-true}
use Rattle.std.proofs.lemmas.List.{append-nil, reverse-append, reverse-reverse}
use Rattle.grasp_cbor.proofs.Facts.Bools.{left_false, right_false}
use Rattle.grasp_types.specs.declared.message.Message.{Message}
use Rattle.grasp_types.specs.declared.message.Message.TheVariants.{Noop, Response, ReqNeg, Invalid}
use Rattle.grasp_laws_session.proofs.Follows.{other_other}
use Rattle.grasp_laws_session.proofs.Reaching.{in_order, inbox_is_next, runs_join}
use Rattle.grasp_laws_session.proofs.Views.{same_side}
use Rattle.grasp_session.specs.Conversation.{Said, says, spoken}
use Rattle.grasp_session.specs.Messages.{Side, Near, Far, other, is_side}
use Rattle.grasp_session.specs.Talk.{Stage, Refused, Party, Talk, party, Move, run, Reached}
use Rattle.grasp_session.specs.Transcript.{Transcript}
use Rattle.grasp_laws_node_stories.proofs.Parts.{heard_both, after_both}
use Rattle.grasp_laws_node_stories.specs.StreamMoves.{StreamMove, Says, Hears, Faults, Marks, Passes, after_move, after_moves, said_by, said_in, heard_by, heard_in, is_last_move, some_move, MayPass, MayMove, MayMoves}
use Rattle.grasp_laws_negotiation.proofs.TalkSteps.{Fits, onto, Able, step, cons_nil}

-- ---- lists of moves

onto_append : (side : Side) (xs ys : List Message) (c : List Said) → onto side (xs ++ ys) c ≡ onto side ys (onto side xs c)
onto_append side [] ys c = refl
onto_append side (x ∷ xs) ys c = onto_append side xs ys (says side x ∷ c)

last_append : (a b : List StreamMove) → some_move is_last_move (a ++ b) ≡ false → (some_move is_last_move a ≡ false) × (some_move is_last_move b ≡ false)
last_append [] b e = (refl, e)
last_append (m ∷ a) b e =
    let r = last_append a b (right_false (is_last_move m) (some_move is_last_move (a ++ b)) e) in
    (ap (λ x. x || some_move is_last_move a) (left_false (is_last_move m) (some_move is_last_move (a ++ b)) e) ∙ r.0, r.1)

taken_append : (a b taken : List Message) → reverse b ++ (reverse a ++ taken) ≡ reverse (a ++ b) ++ taken
taken_append a b taken = sym (append_assoc (reverse b) (reverse a) taken) ∙ ap (λ (l : List Message). l ++ taken) (sym (reverse-append a b))

-- moves after moves
pub ran_then : (t u x : Talk) (a b : List Move) → u ≡ run t a → x ≡ run u b → x ≡ run t (a ++ b)
ran_then t u x a b e f = f ∙ (ap (λ k. run k b) e ∙ sym (runs_join t a b))

-- ---- the moves of one end

-- an end makes the moves a, and may make the moves b then
pub record Ran (side : Side) (t : Talk) (v : Option Transcript) (a b : List StreamMove) : Type 0 where
  pub talk : Talk
  pub reached : Reached talk
  pub moves : List Move
  pub ran : talk ≡ run t moves
  pub said_is : talk.said ≡ onto side (said_in v a) t.said
  pub able : Able side talk (after_moves v a) b
  pub taken_is : some_move is_last_move a ≡ false → (party talk side).taken ≡ reverse (heard_in a) ++ (party t side).taken
  pub awake_is : some_move is_last_move a ≡ false → (party talk side).stage ≡ Refused → (party t side).stage ≡ Refused
  pub other_stage : (party talk (other side)).stage ≡ (party t (other side)).stage
  pub other_taken : (party talk (other side)).taken ≡ (party t (other side)).taken

pub ran : (side : Side) (a b : List StreamMove) (t : Talk) (v : Option Transcript) → Reached t → Able side t v (a ++ b) → Ran side t v a b
ran side [] b t v r able = record { talk = t; reached = r; moves = []; ran = refl; said_is = refl; able = able; taken_is = λ _. refl; awake_is = λ _ f. f; other_stage = refl; other_taken = refl }
ran side (m ∷ a) b t v r able =
    let s = step side t v m (a ++ b) r able in
    let x = ran side a b s.talk (after_move v m) s.reached s.able in
    record {
      talk = x.talk;
      reached = x.reached;
      moves = s.moves ++ x.moves;
      ran = ran_then t s.talk x.talk s.moves x.moves s.ran x.ran;
      said_is = x.said_is ∙ (ap (λ (c : List Said). onto side (said_in (after_move v m) a) c) s.said_is ∙ sym (onto_append side (said_by v m) (said_in (after_move v m) a) t.said));
      able = x.able;
      taken_is = λ e. x.taken_is (right_false (is_last_move m) (some_move is_last_move a) e)
          ∙ (ap (λ (l : List Message). reverse (heard_in a) ++ l) (s.taken_is (left_false (is_last_move m) (some_move is_last_move a) e))
          ∙ taken_append (heard_by m) (heard_in a) (party t side).taken);
      awake_is = λ e f. s.awake_is (left_false (is_last_move m) (some_move is_last_move a) e) (x.awake_is (right_false (is_last_move m) (some_move is_last_move a) e) f);
      other_stage = x.other_stage ∙ s.other_stage;
      other_taken = x.other_taken ∙ s.other_taken;
    }

-- ---- the other end then

own_said : (side : Side) (x : Message) (c : List Said) → spoken side (says side x ∷ c) ≡ x ∷ spoken side c
own_said side x c = cond-true (is_side side side) (x ∷ spoken side c) (spoken side c) (same_side side)

pub spoken_onto : (side : Side) (xs : List Message) (c : List Said) → reverse (spoken side (onto side xs c)) ≡ reverse (spoken side c) ++ xs
spoken_onto side [] c = sym (append-nil (reverse (spoken side c)))
spoken_onto side (x ∷ xs) c =
    spoken_onto side xs (says side x ∷ c)
    ∙ (ap (λ (l : List Message). reverse l ++ xs) (own_said side x c)
    ∙ (ap (λ (l : List Message). l ++ xs) (reverse-append (x ∷ []) (spoken side c)) ∙ append_assoc (reverse (spoken side c)) (x ∷ []) xs))

-- what an end may do it may still do after the other end's moves
still_able : (side : Side) (t u : Talk) (xs : List Message) (v : Option Transcript) (ms : List StreamMove) → Reached t → Reached u → u.said ≡ onto side xs t.said
    → (party u (other side)).stage ≡ (party t (other side)).stage → (party u (other side)).taken ≡ (party t (other side)).taken → Able (other side) t v ms → Able (other side) u v ms
still_able side t u xs v ms r q said stage taken a = record {
  fits = subst (λ (s : Stage). Fits v s) (sym stage) a.fits;
  may = a.may;
  no_fault = a.no_fault;
  no_dial = a.no_dial;
  left = a.left ++ xs;
  ahead = inbox_is_next u q (other side) (reverse (party t (other side)).taken) (heard_in ms ++ (a.left ++ xs)) (taken ∙ sym (reverse-reverse (party t (other side)).taken)) now_said;
  awake = λ e. a.awake (sym stage ∙ e);
} where
  -- under each name of the side: what it has said by now is what it had said before, and then these messages
  at_side : (s : Side) → s ≡ side → reverse (spoken s u.said) ≡ reverse (spoken s t.said) ++ xs
  at_side s e = subst (λ (k : Side). reverse (spoken k u.said) ≡ reverse (spoken k t.said) ++ xs) (sym e) (ap (λ (c : List Said). reverse (spoken side c)) said ∙ spoken_onto side xs t.said)

  now_said : reverse (spoken (other (other side)) u.said) ≡ reverse (party t (other side)).taken ++ (heard_in ms ++ (a.left ++ xs))
  now_said =
      at_side (other (other side)) (other_other side)
      ∙ (ap (λ (l : List Message). l ++ xs) (in_order t r (other side) ∙ ap (λ (l : List Message). reverse (party t (other side)).taken ++ l) a.ahead)
      ∙ (append_assoc (reverse (party t (other side)).taken) (heard_in ms ++ a.left) xs
      ∙ ap (λ (l : List Message). reverse (party t (other side)).taken ++ l) (append_assoc (heard_in ms) a.left xs)))

-- ---- the moves up to the first that says something

pub record Split (v : Option Transcript) (ms : List StreamMove) (x : Message) (xs : List Message) : Type 0 where
  pub before : List StreamMove
  pub behind : List StreamMove
  pub parts : ms ≡ before ++ behind
  pub first : said_in v before ≡ x ∷ []
  pub rest : said_in (after_moves v before) behind ≡ xs

says_one : (v : Option Transcript) (m : StreamMove) → MayMove v m → length (said_by v m) ≤ 1
says_one None (Says now s) may = absurd may
says_one None (Hears now m told) may = absurd may
says_one None (Faults told) may = absurd may
says_one None (Marks cause) may = absurd may
says_one None (Passes m said) may = passed m said may where
  silent : (l : List Message) → l ≡ [] → length l ≤ 1
  silent l e = subst (λ (k : List Message). length k ≤ 1) (sym e) (omega arith)

  passed : (m : Message) (said : List Message) → MayPass m said → length said ≤ 1
  passed (ReqNeg session o) said p = silent said p
  passed Noop said p = absurd p
  passed (Response session initiator ttl told o) said p = silent said p
  passed (Invalid session detail) said p = silent said p
  passed _ said p = p
says_one None _ may = omega arith
says_one (Some v) (Says now s) may = omega arith
says_one (Some v) (Hears now m true) may = omega arith
says_one (Some v) (Hears now m false) may = omega arith
says_one (Some v) (Faults true) may = omega arith
says_one (Some v) (Faults false) may = omega arith
says_one (Some v) (Marks cause) may = omega arith
says_one (Some v) _ may = absurd may

pub split : (v : Option Transcript) (ms : List StreamMove) (x : Message) (xs : List Message) → MayMoves v ms → said_in v ms ≡ x ∷ xs → Split v ms x xs
split v [] x xs may e = absurd (cons_nil x xs (sym e))
split v (m ∷ ms) x xs may e = by_said (λ f. split (after_move v m) ms x xs may.2 f) (said_by v m) refl (says_one v m may.0) where
  by_said : (said_in (after_move v m) ms ≡ x ∷ xs → Split (after_move v m) ms x xs) → (l : List Message) → said_by v m ≡ l → length (said_by v m) ≤ 1 → Split v (m ∷ ms) x xs
  by_said next [] n short =
      let s = next (ap (λ (k : List Message). k ++ said_in (after_move v m) ms) (sym n) ∙ e) in
      record {
        before = m ∷ s.before;
        behind = s.behind;
        parts = ap (λ (k : List StreamMove). m ∷ k) s.parts;
        first = ap (λ (k : List Message). k ++ said_in (after_move v m) s.before) n ∙ s.first;
        rest = s.rest;
      }
  by_said next (y ∷ []) n short =
      let f : y ∷ said_in (after_move v m) ms ≡ x ∷ xs = ap (λ (k : List Message). k ++ said_in (after_move v m) ms) (sym n) ∙ e in
      record {
        before = m ∷ [];
        behind = ms;
        parts = refl;
        first = append-nil (said_by v m) ∙ (n ∙ ap (λ (k : Message). k ∷ []) (heads y x (said_in (after_move v m) ms) xs f));
        rest = tails y x (said_in (after_move v m) ms) xs f;
      } where
        heads : (a b : Message) (k l : List Message) → a ∷ k ≡ b ∷ l → a ≡ b
        heads a b k l f = cc

        tails : (a b : Message) (k l : List Message) → a ∷ k ≡ b ∷ l → k ≡ l
        tails a b k l f = cc
  by_said next (y ∷ z ∷ l) n short = absurd (too_long y z l (subst (λ (k : List Message). length k ≤ 1) n short)) where
    too_long : (a b : Message) (k : List Message) → length (a ∷ b ∷ k) ≤ 1 → ⊥
    too_long a b k h = omega arith

-- ---- both ends

-- the messages of both sides, oldest first, behind what was said
abbrev pub joined : List Said → List Said → List Said
joined [] c = c
joined (z ∷ zs) c = joined zs (z ∷ c)

-- both ends of a talk make their moves, by which these messages of the two sides are said
pub record Both (side : Side) (t : Talk) (v u : Option Transcript) (ms ns : List StreamMove) (zs : List Said) : Type 0 where
  pub talk : Talk
  pub reached : Reached talk
  pub moves : List Move
  pub ran : talk ≡ run t moves
  pub said_is : talk.said ≡ joined zs t.said
  pub mine : Fits (after_moves v ms) (party talk side).stage
  pub theirs : Fits (after_moves u ns) (party talk (other side)).stage
  pub mine_taken : some_move is_last_move ms ≡ false → (party talk side).taken ≡ reverse (heard_in ms) ++ (party t side).taken
  pub theirs_taken : some_move is_last_move ns ≡ false → (party talk (other side)).taken ≡ reverse (heard_in ns) ++ (party t (other side)).taken
  pub mine_awake : some_move is_last_move ms ≡ false → (party talk side).stage ≡ Refused → (party t side).stage ≡ Refused
  pub theirs_awake : some_move is_last_move ns ≡ false → (party talk (other side)).stage ≡ Refused → (party t (other side)).stage ≡ Refused

-- the other side of the other side
again : (P : Side → Type 0) (side : Side) → P side → P (other (other side))
again P Near p = p
again P Far p = p

-- what both ends of a talk did, seen from the other side
swapped : (side : Side) (t : Talk) (v u : Option Transcript) (ms ns : List StreamMove) (zs : List Said) → Both side t v u ms ns zs → Both (other side) t u v ns ms zs
swapped side t v u ms ns zs b = record {
  talk = b.talk;
  reached = b.reached;
  moves = b.moves;
  ran = b.ran;
  said_is = b.said_is;
  mine = b.theirs;
  theirs = again (λ s. Fits (after_moves v ms) (party b.talk s).stage) side b.mine;
  mine_taken = b.theirs_taken;
  theirs_taken = again (λ s. some_move is_last_move ms ≡ false → (party b.talk s).taken ≡ reverse (heard_in ms) ++ (party t s).taken) side b.mine_taken;
  mine_awake = b.theirs_awake;
  theirs_awake = again (λ s. some_move is_last_move ms ≡ false → (party b.talk s).stage ≡ Refused → (party t s).stage ≡ Refused) side b.mine_awake;
}

-- the moves up to this side's next message, and then the others
leads : (side : Side) (t : Talk) (v u : Option Transcript) (a b ns : List StreamMove) (x : Message) (zs : List Said) (q : Ran side t v a b) → said_in v a ≡ x ∷ []
    → Both side q.talk (after_moves v a) u b ns zs → Both side t v u (a ++ b) ns (says side x ∷ zs)
leads side t v u a b ns x zs q e k = record {
  talk = k.talk;
  reached = k.reached;
  moves = q.moves ++ k.moves;
  ran = ran_then t q.talk k.talk q.moves k.moves q.ran k.ran;
  said_is = k.said_is ∙ ap (λ (c : List Said). joined zs c) (q.said_is ∙ ap (λ (l : List Message). onto side l t.said) e);
  mine = subst (λ (y : Option Transcript). Fits y (party k.talk side).stage) (sym (after_both v a b)) k.mine;
  theirs = k.theirs;
  mine_taken = λ h. let l = last_append a b h in
      k.mine_taken l.1 ∙ (ap (λ (y : List Message). reverse (heard_in b) ++ y) (q.taken_is l.0)
      ∙ (taken_append (heard_in a) (heard_in b) (party t side).taken ∙ ap (λ (y : List Message). reverse y ++ (party t side).taken) (sym (heard_both a b))));
  theirs_taken = λ h. k.theirs_taken h ∙ ap (λ (y : List Message). reverse (heard_in ns) ++ y) q.other_taken;
  mine_awake = λ h f. let l = last_append a b h in q.awake_is l.0 (k.mine_awake l.1 f);
  theirs_awake = λ h f. sym q.other_stage ∙ k.theirs_awake h f;
}

none_behind : (side : Side) (t : Talk) (v : Option Transcript) (ms : List StreamMove) → Able side t v ms → Able side t v (ms ++ [])
none_behind side t v ms a = subst (λ (l : List StreamMove). Able side t v l) (sym (append-nil ms)) a

-- where nothing more is said
quietly : (t : Talk) (v u : Option Transcript) (ms ns : List StreamMove) → Reached t → Able Near t v ms → Able Far t u ns → [] ≡ said_in v ms → [] ≡ said_in u ns → Both Near t v u ms ns []
quietly t v u ms ns r a b e f =
    let p = ran Near ms [] t v r (none_behind Near t v ms a) in
    let far = still_able Near t p.talk (said_in v ms) u ns r p.reached p.said_is p.other_stage p.other_taken b in
    let q = ran Far ns [] p.talk u p.reached (none_behind Far p.talk u ns far) in
    record {
      talk = q.talk;
      reached = q.reached;
      moves = p.moves ++ q.moves;
      ran = ran_then t p.talk q.talk p.moves q.moves p.ran q.ran;
      said_is = q.said_is ∙ (ap (λ (l : List Message). onto Far l p.talk.said) (sym f) ∙ (p.said_is ∙ ap (λ (l : List Message). onto Near l t.said) (sym e)));
      mine = subst (λ (s : Stage). Fits (after_moves v ms) s) (sym q.other_stage) p.able.fits;
      theirs = q.able.fits;
      mine_taken = λ h. q.other_taken ∙ p.taken_is h;
      theirs_taken = λ h. q.taken_is h ∙ ap (λ (l : List Message). reverse (heard_in ns) ++ l) p.other_taken;
      mine_awake = λ h f. p.awake_is h (sym q.other_stage ∙ f);
      theirs_awake = λ h f. sym p.other_stage ∙ q.awake_is h f;
    }

-- both ends of a talk that may make the moves of one step make them, and their messages are said in this order
pub both_ran : (zs : List Said) (t : Talk) (v u : Option Transcript) (ms ns : List StreamMove) → Reached t → Able Near t v ms → Able Far t u ns
    → spoken Near zs ≡ said_in v ms → spoken Far zs ≡ said_in u ns → Both Near t v u ms ns zs
both_ran [] t v u ms ns r a b e f = quietly t v u ms ns r a b e f
both_ran (z ∷ zs) t v u ms ns r a b e f = by_side (λ p x y k l. both_ran zs p x y k l) z.side e f where
  by_side : ((p : Talk) (x y : Option Transcript) (k l : List StreamMove) → Reached p → Able Near p x k → Able Far p y l → spoken Near zs ≡ said_in x k → spoken Far zs ≡ said_in y l → Both Near p x y k l zs)
      → (s : Side) → spoken Near (says s z.message ∷ zs) ≡ said_in v ms → spoken Far (says s z.message ∷ zs) ≡ said_in u ns → Both Near t v u ms ns (says s z.message ∷ zs)
  by_side next Near e f =
      let c = split v ms z.message (spoken Near zs) a.may (sym e) in
      let q = ran Near c.before c.behind t v r (subst (λ (l : List StreamMove). Able Near t v l) c.parts a) in
      let far = still_able Near t q.talk (said_in v c.before) u ns r q.reached q.said_is q.other_stage q.other_taken b in
      let k = next q.talk (after_moves v c.before) u c.behind ns q.reached q.able far (sym c.rest) f in
      subst (λ (l : List StreamMove). Both Near t v u l ns (says Near z.message ∷ zs)) (sym c.parts) (leads Near t v u c.before c.behind ns z.message zs q c.first k)
  by_side next Far e f =
      let c = split u ns z.message (spoken Far zs) b.may (sym f) in
      let q = ran Far c.before c.behind t u r (subst (λ (l : List StreamMove). Able Far t u l) c.parts b) in
      let near = still_able Far t q.talk (said_in u c.before) v ms r q.reached q.said_is q.other_stage q.other_taken a in
      let k = next q.talk v (after_moves u c.before) ms c.behind q.reached near q.able e (sym c.rest) in
      subst (λ (l : List StreamMove). Both Near t v u ms l (says Far z.message ∷ zs)) (sym c.parts)
      (swapped Far t u v (c.before ++ c.behind) ms (says Far z.message ∷ zs) (leads Far t u v c.before c.behind ms z.message zs q c.first (swapped Near q.talk v (after_moves u c.before) ms c.behind zs k)))

-- ---- what a step makes of a talk

-- an end's part in a step: its moves, what they say, and what is so of the end afterwards
pub record Part (side : Side) (t : Talk) (voiced : List Message) (After : Party → Type 0) : Type 0 where
  pub view : Option Transcript
  pub moves : List StreamMove
  pub able : Able side t view moves
  pub says : voiced ≡ said_in view moves
  pub after : (p : Party) → Fits (after_moves view moves) p.stage → (some_move is_last_move moves ≡ false → p.taken ≡ reverse (heard_in moves) ++ (party t side).taken)
      → (some_move is_last_move moves ≡ false → p.stage ≡ Refused → (party t side).stage ≡ Refused) → After p

pub record Made (t : Talk) (zs : List Said) (AfterNear AfterFar : Party → Type 0) : Type 0 where
  pub talk : Talk
  pub reached : Reached talk
  pub moves : List Move
  pub ran : talk ≡ run t moves
  pub said_is : talk.said ≡ joined zs t.said
  pub near : AfterNear talk.near
  pub far : AfterFar talk.far

pub made : (zs : List Said) (t : Talk) (AfterNear AfterFar : Party → Type 0) → Reached t → Part Near t (spoken Near zs) AfterNear → Part Far t (spoken Far zs) AfterFar → Made t zs AfterNear AfterFar
made zs t AfterNear AfterFar r a b =
    let k = both_ran zs t a.view b.view a.moves b.moves r a.able b.able a.says b.says in
    record {
      talk = k.talk;
      reached = k.reached;
      moves = k.moves;
      ran = k.ran;
      said_is = k.said_is;
      near = a.after k.talk.near k.mine k.mine_taken k.mine_awake;
      far = b.after k.talk.far k.theirs k.theirs_taken k.theirs_awake;
    }
