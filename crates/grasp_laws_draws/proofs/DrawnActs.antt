-- The lines of drawn rounds are lines of events.
use Rattle.std.proofs.Common.{if◌then◌else◌, ◌≡◌, ℕ, zero, suc, ◌+◌, ◌*◌, ◌≤◌, ◌==◌, Bool, true, false, List, [], ◌∷◌, ◌++◌, length, length-append, refl, sym, ap, subst, arith}
use Rattle.std.specs.Prelude.{codes, decimal}
use Rattle.std.specs.List.{AllByRecursion}
use Rattle.grasp_text.proofs.Pushed.{joined_spaced}
use Rattle.grasp_model_network.specs.Events.{AreLengths}
use Rattle.grasp_model_network.specs.Plans.{IsNode}
use Rattle.grasp_model_network.specs.declared.event.Event.TheVariants as event
use Rattle.grasp_script.specs.Acts.{IsAct, IsLine}
use Rattle.grasp_script.specs.Laws.{act_line}
use Rattle.grasp_script.specs.Scripts.{texts, IsItsLine}
use Rattle.grasp_script.specs.declared.line.Line.{Line}
use Rattle.grasp_script.specs.declared.line.LineAct.{LineAct}
use Rattle.grasp_script.specs.declared.line.LineAct.TheVariants as act
use Rattle.grasp_script.proofs.ActLines.{each_has_one}
use Rattle.grasp_script_draws.specs.Generator.{Draws, draws_from, number_behind, want_line, agent_line, arrive_line, far_line, near_line, cut_line, last_line, clock_line, request_lines, bargain_lines, ending_lines, round_lines, rounds}
use Rattle.grasp_laws_draws.proofs.LineEnds.{has_no_end, HasNoEnd, number_ends, line_ends}

-- ---- one line

-- the text is the line of an event of 16 nodes, and holds no line end
pub record IsActText (text : List ℕ) : Type 0 where
  pub what : LineAct
  pub ranges : IsAct 16 what
  pub same : text ≡ act_line what
  pub ends : HasNoEnd text

word_ends : (w : List ℕ) → has_no_end w ≡ true → HasNoEnd w
word_ends w e = record { none = e }

want_text : (a l b : ℕ) → IsNode 16 a → IsNode 16 b → AreLengths l 64 → IsActText (want_line a l b)
unfolding has_no_end
want_text a l b p q r = record {
  what = act.Event (event.Want a l 64 b);
  ranges = (p, r, q);
  same = sym (joined_spaced (codes "want") (decimal a ∷ decimal l ∷ decimal 64 ∷ decimal b ∷ []));
  ends =
      let most_a : a ≤ 16 = p.most in
      let most_b : b ≤ 16 = q.most in
      let most_l : l ≤ 64 = r.rising in
      line_ends (codes "want") (decimal a ∷ decimal l ∷ decimal 64 ∷ decimal b ∷ []) (word_ends (codes "want") refl)
      (number_ends a (omega arith), (number_ends l (omega arith), (number_ends 64 (omega arith), (number_ends b (omega arith), tt))));
}

agent_text : (n : ℕ) → IsNode 16 n → IsActText (agent_line n)
unfolding has_no_end
agent_text n p = record {
  what = act.Event (event.Agent n false);
  ranges = p;
  same = sym (joined_spaced (codes "agent") (decimal n ∷ []));
  ends = let most : n ≤ 16 = p.most in line_ends (codes "agent") (decimal n ∷ []) (word_ends (codes "agent") refl) (number_ends n (omega arith), tt);
}

arrive_text : (r : ℕ) → r ≤ 800 → IsActText (arrive_line r)
unfolding has_no_end
arrive_text r le = record {
  what = act.Event (event.Arrive r false);
  ranges = omega arith;
  same = sym (joined_spaced (codes "arrive") (decimal r ∷ []));
  ends = line_ends (codes "arrive") (decimal r ∷ []) (word_ends (codes "arrive") refl) (number_ends r (omega arith), tt);
}

far_text : (r : ℕ) → r ≤ 800 → IsActText (far_line r)
unfolding has_no_end
far_text r le = record {
  what = act.Event (event.Bytes r true 9999 false);
  ranges = (omega arith, omega arith);
  same = sym (joined_spaced (codes "bytes") (decimal r ∷ codes "far" ∷ decimal 9999 ∷ []));
  ends =
      line_ends (codes "bytes") (decimal r ∷ codes "far" ∷ decimal 9999 ∷ []) (word_ends (codes "bytes") refl)
      (number_ends r (omega arith), (word_ends (codes "far") refl, (number_ends 9999 (omega arith), tt)));
}

near_text : (r : ℕ) → r ≤ 800 → IsActText (near_line r)
unfolding has_no_end
near_text r le = record {
  what = act.Event (event.Bytes r false 9999 false);
  ranges = (omega arith, omega arith);
  same = sym (joined_spaced (codes "bytes") (decimal r ∷ codes "near" ∷ decimal 9999 ∷ []));
  ends =
      line_ends (codes "bytes") (decimal r ∷ codes "near" ∷ decimal 9999 ∷ []) (word_ends (codes "bytes") refl)
      (number_ends r (omega arith), (word_ends (codes "near") refl, (number_ends 9999 (omega arith), tt)));
}

cut_text : (r : ℕ) → r ≤ 800 → IsActText (cut_line r)
unfolding has_no_end
cut_text r le = record {
  what = act.Event (event.Cut r true false);
  ranges = omega arith;
  same = sym (joined_spaced (codes "cut") (decimal r ∷ codes "far" ∷ []));
  ends = line_ends (codes "cut") (decimal r ∷ codes "far" ∷ []) (word_ends (codes "cut") refl) (number_ends r (omega arith), (word_ends (codes "far") refl, tt));
}

last_text : (r chance : ℕ) → r ≤ 800 → IsActText (last_line r chance)
last_text r chance le = by_test (chance == 0) where
  by_test : (b : Bool) → IsActText (if b then cut_line r else far_line r)
  by_test true = cut_text r le
  by_test false = far_text r le

clock_text : (n r : ℕ) → IsNode 16 n → r ≤ 800 → IsActText (clock_line n (100 * r))
unfolding has_no_end
clock_text n r p le = record {
  what = act.Event (event.Clock n (100 * r));
  ranges = (p, omega arith);
  same = sym (joined_spaced (codes "clock") (decimal n ∷ decimal (100 * r) ∷ []));
  ends =
      let most : n ≤ 16 = p.most in
      line_ends (codes "clock") (decimal n ∷ decimal (100 * r) ∷ []) (word_ends (codes "clock") refl) (number_ends n (omega arith), (number_ends (100 * r) (omega arith), tt));
}

-- ---- a round

pub record IsDrawnWell (d : Draws) : Type 0 where
  pub asking : IsNode 16 d.asking
  pub asked : IsNode 16 d.asked
  pub length_is : AreLengths d.length 64

pub drawn_well : (x : ℕ) → IsDrawnWell (draws_from x)
unfolding draws_from
drawn_well x = record {
  asking = record { least = omega arith; most = omega arith };
  asked = record { least = omega arith; most = omega arith };
  length_is = record { least = omega arith; rising = omega arith; most = omega arith };
}

both : (xs ys : List (List ℕ)) → AllByRecursion IsActText xs → AllByRecursion IsActText ys → AllByRecursion IsActText (xs ++ ys)
both [] ys p q = q
both (x ∷ xs) ys p q = (p.0, both xs ys p.1 q)

module _ (r : ℕ) (d : Draws) (le : r ≤ 800) (w : IsDrawnWell d) where
  a : IsActText (agent_line d.asking)
  a = agent_text d.asking w.asking

  b : IsActText (agent_line d.asked)
  b = agent_text d.asked w.asked

  request : AllByRecursion IsActText (request_lines r d)
  request = (want_text d.asking d.length d.asked w.asking w.asked w.length_is, (a, (arrive_text r le, (far_text r le, tt))))

  bargain : AllByRecursion IsActText (bargain_lines r d)
  bargain = (b, (b, (b, (near_text r le, (a, (a, (a, (far_text r le, (b, (b, (b, (near_text r le, tt))))))))))))

  ending : AllByRecursion IsActText (ending_lines r d)
  ending = (a, (a, (a, (a, (a, (last_text r d.chance le, (b, (b, (clock_text d.asked r w.asked le, tt)))))))))

round_texts : (r : ℕ) (d : Draws) → r ≤ 800 → IsDrawnWell d → AllByRecursion IsActText (round_lines r d)
unfolding round_lines
round_texts r d le w = both (request_lines r d) (bargain_lines r d ++ ending_lines r d) (request r d le w) (both (bargain_lines r d) (ending_lines r d) (bargain r d le w) (ending r d le w))

pub rounds_texts : (n x : ℕ) → n ≤ 800 → AllByRecursion IsActText (rounds n x)
unfolding rounds
rounds_texts zero x le = tt
rounds_texts (suc n) x le = both (rounds n x) (round_lines (n + 1) (draws_from (number_behind n x))) (rounds_texts n x (omega arith)) (round_texts (n + 1) (draws_from (number_behind n x)) (omega arith) (drawn_well (number_behind n x)))

round_count : (r : ℕ) (d : Draws) → length (round_lines r d) ≡ 25
unfolding round_lines
round_count r d = refl

pub rounds_count : (n x : ℕ) → length (rounds n x) ≡ 25 * n
unfolding rounds
rounds_count zero x = refl
rounds_count (suc n) x =
    let h : length (rounds n x) ≡ 25 * n = rounds_count n x in
    let k : length (round_lines (n + 1) (draws_from (number_behind n x))) ≡ 25 = round_count (n + 1) (draws_from (number_behind n x)) in
    omega (arith, length-append (rounds n x) (round_lines (n + 1) (draws_from (number_behind n x))))

-- ---- lines of a script

pub lines_for : (ls : List (List ℕ)) → AllByRecursion IsActText ls → List Line
lines_for [] h = []
lines_for (l ∷ ls) h = record { text = l; act = h.0.what } ∷ lines_for ls h.1

pub texts_for : (ls : List (List ℕ)) (h : AllByRecursion IsActText ls) → texts (lines_for ls h) ≡ ls
unfolding lines_for
texts_for [] h = refl
texts_for (l ∷ ls) h = ap (λ (t : List (List ℕ)). l ∷ t) (texts_for ls h.1)

pub count_for : (ls : List (List ℕ)) (h : AllByRecursion IsActText ls) → length (lines_for ls h) ≡ length ls
unfolding lines_for
count_for [] h = refl
count_for (l ∷ ls) h = let e : length (lines_for ls h.1) ≡ length ls = count_for ls h.1 in omega arith

pub meant_for : (ls : List (List ℕ)) (h : AllByRecursion IsActText ls) → AllByRecursion (IsItsLine 16) (lines_for ls h)
unfolding lines_for
meant_for [] h = tt
meant_for (l ∷ ls) h = (subst (λ (t : List ℕ). IsLine 16 t h.0.what) (sym h.0.same) (each_has_one 16 h.0.what (omega arith) h.0.ranges).0, meant_for ls h.1)

pub ends_for : (ls : List (List ℕ)) → AllByRecursion IsActText ls → AllByRecursion HasNoEnd ls
ends_for [] h = tt
ends_for (l ∷ ls) h = (h.0.ends, ends_for ls h.1)
