-- Each step keeps the rule.
use Rattle.std.proofs.Common.{◌≡◌, ◌≢◌, ℕ, ◌+◌, ◌-◌, ◌*◌, ◌%◌, ◌<◌, ◌≤◌, ◌⊎◌, inl, inr, ⊎_elim, List, [], ◌∷◌, ◌++◌, length, set, get_or, refl, ap, sym, ◌∙◌, subst, arith, length-set, get_or-set_same, length-append, eqb, eq-eqb, ne_eqb}
use Rattle.std.proofs.lemmas.List.{set-get_or}
use mathlib.Core.List.{IsPrefix}
use mathlib.Core.Logic.{dite}
use Rattle.std.proofs.Common.{Bool, true, false, nat_lt, if◌then◌else◌}
use borrow.Author.Tests.{ltb-true}
use mathlib.Core.Option.{Option as Maybe, none, some, some-ne-none}
use native.Mathlib.Decide.{ℕ_discrete, dec_le}
use prog.Atomic.{either}
use lib.ListN.{get_elem?}
use Rattle.atomic_table.specs.Table.{State, step, keeps, takes, gives, stepped, Allows, Splits, Joins, opening, Final, Seen}
use Rattle.atomic_table.proofs.Lists.{at_set, set_here, set_else, set_again, at_longer, at_last}
use Rattle.grasp_core.specs.declared.node_core.NodeCore.{NodeCore}
use Rattle.grasp_shared.specs.Calls.{Answered, Kept, Opened, entry}
use Rattle.grasp_shared.specs.History.{Entry, History, own_calls}
use Rattle.grasp_shared.specs.Law.{Ruled, Fits, Gone, IsRoot, lives, turns}
use Rattle.grasp_shared.specs.Passes.{view, fresh, taking, served, IsAlone, EachJoined, HasJust, NoOther, left, right, both, spent, kept}
use Rattle.grasp_shared.specs.Plays.{Expected, Sat, looked, won, ended, met}
use Rattle.grasp_shared.specs.Totals.{total}
use Rattle.grasp_shared.specs.declared.view.View.{View}
use Rattle.grasp_shared.proofs.Sums.{same_at, within, at_end, total-append, total-set, term_le, terms_le, positive_at}
use Rattle.grasp_shared.proofs.Prefixes.{prefix_self, prefix_trans, prefix_length, prefix_whole, prefix_shorter, between, calls_none, calls_own, calls_other}

abbrev Home : Type 0
Home = Maybe NodeCore

abbrev Board : Type 0
Board = State NodeCore View

module _ (At : Opened → History → NodeCore → Type 0) (from : Opened) where
  abbrev Rule : Board → Type 0
  Rule s = Ruled At from s

  -- where two seats have one pass's number, they are one
  others : (s : Board) (r : Rule s) (id j : ℕ) (v u : View) → get_elem? s.views id ≡ some v → v.live ≡ 1 → get_elem? s.views j ≡ some u → u.live ≡ 1 → j ≢ id → u.number ≢ v.number
  others s r id j v u at lv e lu ne same = ne (r.apart j id u v e at lu lv same)

  -- one pass goes on to a longer history, in which only its own calls are new
  moved : (s : Board) (r : Rule s) (id : ℕ) (v : View) → get_elem? s.views id ≡ some v → v.live ≡ 1
      → (log : History) → IsPrefix r.history log → (mine : History) (turn word turning : ℕ) (homes : List Home)
      → length homes ≡ 1 → word ≡ (2 * length log + turning) % 18446744073709551616 → turning ≤ 1 → turning + v.turn ≡ r.turning + turn
      → ((j : ℕ) (u : View) → j ≢ id → get_elem? s.views j ≡ some u → u.turn ≡ 0)
      → ((n : ℕ) → n ≢ v.number → own_calls n log ≡ own_calls n r.history) → own_calls v.number log ≡ mine
      → (turning ≡ 0 → (h : NodeCore) × (get_elem? homes 0 ≡ some (some h)) × At from log h)
      → Rule (record { words = set s.words 0 word; homes = homes; views = set s.views id (fresh v log mine turn) })
  moved s r id v at lv log pre mine turn word turning homes deep is one sum quiet same own home =
      let w : View = fresh v log mine turn in
      let fit : Fits from r.made r.history v = r.each id v at lv in
      let seen-on : IsPrefix v.seen log = prefix_trans v.seen r.history log fit.prefix pre in
      let inside : id < length s.views = within s.views id v at in
      let here : get_elem? (set s.views id w) id ≡ some w = set_here s.views id w inside in
      let lw : w.live ≡ 1 = lv in
      record {
        history = log;
        turning = turning;
        made = r.made;
        out = r.out;
        joined = r.joined;
        wide = length-set s.words 0 word ∙ r.wide;
        deep = deep;
        word = let h : 0 < length s.words = omega (arith, r.wide) in get_or-set_same s.words 0 word 0 h ∙ is;
        root = dite (ℕ_discrete 0 id)
            (λ e. let u = r.root.0 in let q : u ≡ v = same_at s.views 0 id u v r.root.1 at e in
            let k : IsRoot r.made r.out r.joined v = subst (λ (x : View). IsRoot r.made r.out r.joined x) q r.root.2 in
            (w, subst (λ (i : ℕ). get_elem? (set s.views id w) i ≡ some w) (sym e) here, record { live = k.live; number = k.number; made = k.made; out = k.out; joined = k.joined }, λ i g e. let f : Gone r.made r.history s.views g = r.gone i g e in same g.number (λ q. f.alone id v at lv (sym q)) ∙ f.own))
            (λ n. (r.root.0, set_else s.views id 0 w n ∙ r.root.1, r.root.2, r.root.3));
        counted = let t = total-set lives s.views id v w at in omega (arith, t, r.counted);
        turned = let t = total-set turns s.views id v w at in omega (arith, t, r.turned, sum);
        one = one;
        each = λ j u e lu. ⊎_elim
            (λ (t : (j ≡ id) × (w ≡ u)). subst (λ (x : View). Fits from r.made log x) t.1 (record { newer = fit.newer; opened_is = fit.opened_is; prefix = prefix_self log; own = own; whole = λ _. refl; owned = own; was = prefix_trans v.was v.seen log fit.was seen-on; heard = prefix_trans v.heard v.seen log fit.heard seen-on }))
            (λ (t : (j ≢ id) × (get_elem? s.views j ≡ some u)). let f : Fits from r.made r.history u = r.each j u t.1 lu in record {
              newer = f.newer;
              opened_is = f.opened_is;
              prefix = prefix_trans u.seen r.history log f.prefix pre;
              own = same u.number (others s r id j v u at lv t.1 lu t.0) ∙ f.own;
              whole = λ on. let z : u.turn ≡ 0 = quiet j u t.0 t.1 in absurd (omega arith);
              owned = f.owned;
              was = f.was;
              heard = f.heard;
            })
            (at_set s.views id j w u e);
        dead = λ j u e. ⊎_elim
            (λ (t : (j ≡ id) × (w ≡ u)). inl (subst (λ (x : View). x.live ≡ 1) t.1 lw))
            (λ (t : (j ≢ id) × (get_elem? s.views j ≡ some u)). r.dead j u t.1)
            (at_set s.views id j w u e);
        apart = λ i j a b ea eb la lb number.
            let was : (i : ℕ) (a : View) → get_elem? (set s.views id w) i ≡ some a → (x : View) × (get_elem? s.views i ≡ some x) × (x.live ≡ a.live) × (x.number ≡ a.number) = λ i a ea. ⊎_elim
            (λ (t : (i ≡ id) × (w ≡ a)). (v, subst (λ (k : ℕ). get_elem? s.views k ≡ some v) (sym t.0) at, ap (λ (x : View). x.live) t.1, ap (λ (x : View). x.number) t.1))
            (λ (t : (i ≢ id) × (get_elem? s.views i ≡ some a)). (a, t.1, refl, refl))
            (at_set s.views id i w a ea) in
            let x = was i a ea in let y = was j b eb in
            r.apart i j x.0 y.0 x.1 y.1 (x.2 ∙ la) (y.2 ∙ lb) (x.3 ∙ (number ∙ sym y.3));
        whole = (id, w, here, lw, refl);
        gone = λ i k e. let g : Gone r.made r.history s.views k = r.gone i k e in record {
          newer = g.newer;
          own = same k.number (λ q. g.alone id v at lv (sym q)) ∙ g.own;
          alone = λ j u e lu. ⊎_elim
              (λ (t : (j ≡ id) × (w ≡ u)). subst (λ (x : View). x.number ≢ k.number) t.1 (g.alone id v at lv))
              (λ (t : (j ≢ id) × (get_elem? s.views j ≡ some u)). g.alone j u t.1 lu)
              (at_set s.views id j w u e);
        };
        known = λ n le. ⊎_elim
            (λ (t : (i : ℕ) × (x : View) × (get_elem? s.views i ≡ some x) × (x.live ≡ 1) × (x.number ≡ n)). dite (ℕ_discrete t.0 id)
            (λ q. inl (id, w, here, lw, ap (λ (x : View). x.number) (same_at s.views id t.0 v t.1 at t.2 (sym q)) ∙ t.4))
            (λ q. inl (t.0, t.1, set_else s.views id t.0 w q ∙ t.2, t.3, t.4)))
            (λ (t : (i : ℕ) × (k : Kept) × (get_elem? r.joined i ≡ some k) × (k.number ≡ n)). inr t)
            (r.known n le);
        unmade = λ n le. same n (λ q. let h = fit.newer in absurd (omega arith)) ∙ r.unmade n le;
        home = home;
      }

  -- a live pass with the root's number is the root
  rooted : (s : Board) (r : Rule s) (id : ℕ) (v : View) → get_elem? s.views id ≡ some v → v.live ≡ 1 → v.number ≡ 0 → (id ≡ 0) × IsRoot r.made r.out r.joined v × EachJoined r.joined v.seen
  rooted s r id v at lv z =
      let u = r.root.0 in let k = r.root.2 in
      let i : id ≡ 0 = r.apart id 0 v u at r.root.1 lv k.live (z ∙ sym k.number) in
      let q : u ≡ v = same_at s.views 0 id u v r.root.1 at (sym i) in
      (i, subst (λ (x : View). IsRoot r.made r.out r.joined x) q k, subst (λ (x : View). EachJoined r.joined x.seen) q r.root.3)

  -- where the root has no other pass, it is the one live pass
  lone : (s : Board) (r : Rule s) (id : ℕ) (v : View) → get_elem? s.views id ≡ some v → IsAlone v → (total lives s.views ≡ 1) × ((j : ℕ) (u : View) → get_elem? s.views j ≡ some u → u.live ≡ 1 → v ≡ u)
  lone s r id v at a =
      let k = (rooted s r id v at a.live a.number).1 in
      let few : total lives s.views ≡ 1 = omega (arith, r.counted, k.out, a.out) in (
        few,
        λ j u e lu. dite (ℕ_discrete j id)
            (λ same. same_at s.views id j v u at e (sym same))
            (λ ne. let t = terms_le lives s.views id j v u ne at e in absurd (omega (arith, t, a.live, lu, few))),
      )

  -- the root, where it has no other pass, has seen the whole history, and no pass is in its turn
  alone : (s : Board) (r : Rule s) (id : ℕ) (v : View) → get_elem? s.views id ≡ some v → IsAlone v → (v.seen ≡ r.history) × (r.turning ≡ 0)
  alone s r id v at a =
      let only = (lone s r id v at a).1 in
      let w = r.whole in (
        ap (λ (x : View). x.seen) (only w.0 w.1 w.2 w.3) ∙ w.4,
        dite (ℕ_discrete r.turning 0) (λ z. z)
            (λ n. let p = positive_at turns s.views (omega (arith, r.turned)) in ⊎_elim
            (λ lu. let same = only p.0 p.1 p.2 lu in absurd (omega (arith, p.3, ap turns same, a.turn)))
            (λ (t : (p.1.live ≡ 0) × (p.1.turn ≡ 0)). absurd (omega (arith, p.3, t.1)))
            (r.dead p.0 p.1 p.2)),
      )

  expects : (s : Board) (r : Rule s) (id : ℕ) (v : View) → get_elem? s.views id ≡ some v → Expected v (get_or s.words 0 0)
  expects s r id v at a = let t = alone s r id v at a in omega (arith, r.word, t.1, ap length t.0)

  unmoved : (s : Board) (r : Rule s) (id : ℕ) (v : View) (c : List (ℕ × NodeCore)) → get_elem? s.views id ≡ some v → Rule (stepped s 0 (get_or s.words 0 0) id c v keeps)
  unmoved s r id v c at = subst Rule (λ i. record { words = sym (set-get_or s.words 0 0) i; homes = s.homes; views = sym (set_again s.views id v at) i }) r

  pub looks : (slots id : ℕ) (me : Sat) → Allows Rule slots id me 0 (λ n. n) (looked (step slots 0 0 0 none) me)
  looks slots id me s r wide at small = (me.0, keeps, tt, unmoved s r id me.0 me.1 at, (refl, expects s r id me.0 at))

  pub wins : (slots id : ℕ) (me : Sat) (old new : ℕ) → me.0.live ≡ 1 → me.0.turn ≡ 0 → old % 2 ≡ 0 → new ≡ old + 1 → old < 18446744073709551616
      → Allows Rule slots id me 0 (λ x. either (eqb x old) new x) (won At (step slots 0 old new none) me)
  wins slots id me old new lv tv even up bound s r wide at small = let x : ℕ = get_or s.words 0 0 in let v : View = me.0 in dite (ℕ_discrete x old)
      (λ hit.
      let free : r.turning ≡ 0 = omega (arith, r.word, r.one, hit, even) in
      let h = r.home free in
      let fit : Fits from r.made r.history v = r.each id v at lv in
      let n : new ≡ (2 * length r.history + 1) % 18446744073709551616 = omega (arith, r.word, free, hit, even, up) in
      let deep : length (set s.homes 0 none) ≡ 1 = length-set s.homes 0 none ∙ r.deep in
      let after : Rule (record { words = set s.words 0 new; homes = set s.homes 0 none; views = set s.views id (taking v r.history) }) =
      moved s r id v at lv r.history (prefix_self r.history) v.mine 1 new 1 (set s.homes 0 none) deep n (omega arith) (omega (arith, free, tv))
      (λ j u ne e. let t = term_le turns s.views j u e in omega (arith, t, r.turned, free)) (λ n ne. refl) fit.own (λ z. absurd (omega arith)) in (
        taking v r.history,
        takes 0 h.0,
        h.1,
        subst (λ b. Rule (stepped s 0 (either b new x) id me.1 (taking v r.history) (takes 0 h.0))) (sym (eq-eqb x old hit)) after,
        ((λ _. (r.history, h.0, fit.prefix, subst (λ (f : Opened). At f r.history h.0) (sym fit.opened_is) h.2, refl)), (λ miss. absurd (miss hit)), expects s r id v at),
      ))
      (λ miss. (
        v,
        keeps,
        tt,
        subst (λ b. Rule (stepped s 0 (either b new x) id me.1 v keeps)) (sym (ne_eqb x old miss)) (unmoved s r id v me.1 at),
        ((λ hit. absurd (miss hit)), (λ _. refl), expects s r id v at),
      ))

  pub ends : (slots id : ℕ) (v : View) (h : NodeCore) (c : Answered) → v.live ≡ 1 → v.turn ≡ 1 → At v.opened (v.seen ++ entry v.number c ∷ []) h
      → Allows Rule slots id (v, (0, h) ∷ []) 0 (λ n. (n + 1) % 18446744073709551616) (ended c (step slots 0 1 0 none) (v, (0, h) ∷ []))
  ends slots id v h c lv tv stands s r wide at small =
      let x : ℕ = get_or s.words 0 0 in
      let fit : Fits from r.made r.history v = r.each id v at lv in
      let all : v.seen ≡ r.history = fit.whole tv in
      let e : Entry = entry v.number c in
      let log : History = v.seen ++ e ∷ [] in
      let mine : History = v.mine ++ e ∷ [] in
      let on : r.turning ≡ 1 = let t = term_le turns s.views id v at in omega (arith, t, r.turned, r.one, tv) in
      let n : (x + 1) % 18446744073709551616 ≡ (2 * length log + 0) % 18446744073709551616 =
      omega (arith, r.word, on, length-append v.seen (e ∷ []), ap length all) in
      let homes : List Home = set s.homes 0 (some h) in
      let deep : length homes ≡ 1 = length-set s.homes 0 (some h) ∙ r.deep in
      let room : 0 < length s.homes = omega (arith, r.deep) in
      let same : (n : ℕ) → n ≢ v.number → own_calls n log ≡ own_calls n r.history = λ n ne. calls_other n v.seen e (λ q. ne (sym q)) ∙ ap (own_calls n) all in
      let own : own_calls v.number log ≡ mine = calls_own v.number v.seen e refl ∙ ap (λ (l : History). l ++ e ∷ []) (ap (own_calls v.number) all ∙ fit.own) in (
        served v v.seen c,
        gives,
        tt,
        moved s r id v at lv log (e ∷ [], ap (λ (l : History). l ++ e ∷ []) (sym all)) mine 0 ((x + 1) % 18446744073709551616) 0 homes deep n (omega arith) (omega (arith, on, tv))
            (λ j u ne f. let t = terms_le turns s.views id j v u ne at f in omega (arith, t, r.turned, r.one, tv)) same own
            (λ _. (h, set_here s.homes 0 (some h) room, subst (λ (f : Opened). At f log h) fit.opened_is stands)),
        (
          refl,
          (
            own,
            λ z. let k = (rooted s r id v at lv z).1 in λ i j f. let g : Gone r.made r.history s.views j = r.gone i j (subst (λ (l : List Kept). get_elem? l i ≡ some j) k.joined f) in
                same j.number (λ q. g.alone id v at lv (sym q)) ∙ g.own,
          ),
        ),
      )

  -- after a split a pass is the new one, the root, or one that was there
  by_split : {C : Type 0} (views : List View) (id : ℕ) (l n : View) (j : ℕ) (u : View) → get_elem? (set views id l ++ n ∷ []) j ≡ some u
      → (j ≡ length (set views id l) → n ≡ u → C) → (j ≢ length (set views id l) → j ≡ id → l ≡ u → C) → (j ≢ length (set views id l) → j ≢ id → get_elem? views j ≡ some u → C) → C
  by_split views id l n j u e a b c = let t = at_end (set views id l) n u j e in dite (ℕ_discrete j (length (set views id l)))
      (λ last. a last (t.1 last))
      (λ ne. ⊎_elim (λ (q : (j ≡ id) × (l ≡ u)). b ne q.0 q.1) (λ (q : (j ≢ id) × (get_elem? views j ≡ some u)). c ne q.0 q.1) (at_set views id j l u (t.0 ne)))

  pub splits : (id : ℕ) (v : View) → v.live ≡ 1 → v.number ≡ 0 → v.turn ≡ 0 → Splits Rule id v (left v) (right v)
  splits id v lv z tv s r at =
      let root = rooted s r id v at lv z in let k = root.1 in
      let l : View = left v in let n : View = right v in
      let vs : List View = set s.views id l in let all : List View = vs ++ n ∷ [] in
      let fit : Fits from r.made r.history v = r.each id v at lv in
      let inside : id < length s.views = within s.views id v at in
      let long : length vs ≡ length s.views = length-set s.views id l in
      let here : get_elem? all id ≡ some l = at_longer vs (n ∷ []) id l (set_here s.views id l inside) in
      let made : v.made ≡ r.made = k.made in
      record {
        history = r.history;
        turning = r.turning;
        made = r.made + 1;
        out = r.out + 1;
        joined = r.joined;
        wide = r.wide;
        deep = r.deep;
        word = r.word;
        root = (l, subst (λ (i : ℕ). get_elem? all i ≡ some l) root.0 here, record { live = lv; number = z; made = omega (arith, made); out = omega (arith, k.out); joined = k.joined }, root.2);
        counted = omega (arith, total-append lives vs (n ∷ []), total-set lives s.views id v l at, r.counted);
        turned = omega (arith, total-append turns vs (n ∷ []), total-set turns s.views id v l at, r.turned);
        one = r.one;
        each = λ j u e lu. by_split s.views id l n j u e
            (λ last q. subst (λ (x : View). Fits from (r.made + 1) r.history x) q (record { newer = omega (arith, made); opened_is = fit.opened_is; prefix = fit.prefix; own = r.unmade v.made (omega (arith, made)); whole = λ on. absurd (omega arith); owned = calls_none v.made v.seen r.history fit.prefix (r.unmade v.made (omega (arith, made))); was = (v.seen, refl); heard = (v.seen, refl) }))
            (λ ne same q. subst (λ (x : View). Fits from (r.made + 1) r.history x) q (record { newer = let h = fit.newer in omega arith; opened_is = fit.opened_is; prefix = fit.prefix; own = fit.own; whole = fit.whole; owned = fit.owned; was = fit.was; heard = fit.heard }))
            (λ ne other at'. let f : Fits from r.made r.history u = r.each j u at' lu in record { newer = let h = f.newer in omega arith; opened_is = f.opened_is; prefix = f.prefix; own = f.own; whole = f.whole; owned = f.owned; was = f.was; heard = f.heard });
        dead = λ j u e. by_split s.views id l n j u e
            (λ last q. inl (ap lives (sym q)))
            (λ ne same q. inl (ap lives (sym q) ∙ lv))
            (λ ne other at'. r.dead j u at');
        apart = λ i j a b ea eb la lb number.
            let was : (i : ℕ) (a : View) → get_elem? all i ≡ some a → a.live ≡ 1 → i ≢ length vs → (x : View) × (get_elem? s.views i ≡ some x) × (x.live ≡ a.live) × (x.number ≡ a.number) = λ i a ea la ne. by_split s.views id l n i a ea
            (λ last q. absurd (ne last))
            (λ ne same q. (v, subst (λ (k : ℕ). get_elem? s.views k ≡ some v) (sym same) at, ap (λ (x : View). x.live) q, ap (λ (x : View). x.number) q))
            (λ ne other at'. (a, at', refl, refl)) in
            let new : (i : ℕ) (a : View) → get_elem? all i ≡ some a → i ≡ length vs → a.number ≡ r.made = λ i a ea last. ap (λ (x : View). x.number) (sym ((at_end vs n a i ea).1 last)) ∙ made in
            dite (ℕ_discrete i (length vs))
            (λ li. dite (ℕ_discrete j (length vs))
            (λ lj. li ∙ sym lj)
            (λ nj. let y = was j b eb lb nj in let f : Fits from r.made r.history y.0 = r.each j y.0 y.1 (y.2 ∙ lb) in let h = f.newer in absurd (omega (arith, new i a ea li, y.3, number))))
            (λ ni. let x = was i a ea la ni in dite (ℕ_discrete j (length vs))
            (λ lj. let f : Fits from r.made r.history x.0 = r.each i x.0 x.1 (x.2 ∙ la) in let h = f.newer in absurd (omega (arith, new j b eb lj, x.3, number)))
            (λ nj. let y = was j b eb lb nj in r.apart i j x.0 y.0 x.1 y.1 (x.2 ∙ la) (y.2 ∙ lb) (x.3 ∙ (number ∙ sym y.3))));
        whole = let w = r.whole in dite (ℕ_discrete w.0 id)
            (λ same. (id, l, here, lv, ap (λ (x : View). x.seen) (same_at s.views id w.0 v w.1 at w.2 (sym same)) ∙ w.4))
            (λ ne. (w.0, w.1, at_longer vs (n ∷ []) w.0 w.1 (set_else s.views id w.0 l ne ∙ w.2), w.3, w.4));
        gone = λ i g e. let f : Gone r.made r.history s.views g = r.gone i g e in record {
          newer = let h = f.newer in omega arith;
          own = f.own;
          alone = λ j u e' lu. by_split s.views id l n j u e'
              (λ last q same. let h = f.newer in absurd (omega (arith, ap (λ (x : View). x.number) q, made, same)))
              (λ ne at' q. subst (λ (x : View). x.number ≢ g.number) q (f.alone id v at lv))
              (λ ne other at'. f.alone j u at' lu);
        };
        known = λ m le. dite (ℕ_discrete m r.made)
            (λ q. inl (length vs, n, at_last vs n (length vs) refl, refl, made ∙ sym q))
            (λ q. ⊎_elim
            (λ (t : (i : ℕ) × (x : View) × (get_elem? s.views i ≡ some x) × (x.live ≡ 1) × (x.number ≡ m)). dite (ℕ_discrete t.0 id)
            (λ e. inl (id, l, here, lv, ap (λ (x : View). x.number) (same_at s.views id t.0 v t.1 at t.2 (sym e)) ∙ t.4))
            (λ e. inl (t.0, t.1, at_longer vs (n ∷ []) t.0 t.1 (set_else s.views id t.0 l e ∙ t.2), t.3, t.4)))
            (λ (t : (i : ℕ) × (k : Kept) × (get_elem? r.joined i ≡ some k) × (k.number ≡ m)). inr t)
            (r.known m (omega arith)));
        unmade = λ m le. r.unmade m (omega arith);
        home = r.home;
      }

  choose : (P : History → Type 0) (xs ys : History) (b : Bool) → P xs → P ys → P (if b then ys else xs)
  choose P xs ys true p q = q
  choose P xs ys false p q = p

  -- where one of two beginnings is the whole, the longer is
  longer_whole : (xs ys log : History) → IsPrefix xs log → IsPrefix ys log → (xs ≡ log) ⊎ (ys ≡ log) → (b : Bool) → nat_lt (length xs) (length ys) ≡ b → (if b then ys else xs) ≡ log
  longer_whole xs ys log p q w true is = ⊎_elim (λ e. let h = prefix_length ys log q in let g : length xs < length ys = grind (arith, ltb-true) in absurd (omega (arith, ap length e))) (λ e. e) w
  longer_whole xs ys log p q w false is = ⊎_elim (λ e. e) (λ e. let g : length ys ≤ length xs = grind arith in prefix_whole xs log p (omega (arith, ap length e))) w

  -- two prefixes of a history are prefixes of the longer of the two
  longer_begins : (xs ys log : History) → IsPrefix xs log → IsPrefix ys log → (b : Bool) → nat_lt (length xs) (length ys) ≡ b → IsPrefix xs (if b then ys else xs) × IsPrefix ys (if b then ys else xs)
  longer_begins xs ys log p q true is = let g : length xs < length ys = grind (arith, ltb-true) in (prefix_shorter xs ys log p q (omega arith), prefix_self ys)
  longer_begins xs ys log p q false is = let g : length ys ≤ length xs = grind arith in (prefix_self xs, prefix_shorter ys xs log q p g)

  pub joins : (id : ℕ) (v : View) (other : ℕ) (u : View) → v.live ≡ 1 → v.number ≡ 0 → v.turn ≡ 0 → u.live ≡ 1 → u.turn ≡ 0 → Joins Rule id v other u (both v u) spent
  joins id v other u lv z tv lu tu s r at apart there =
      let root = rooted s r id v at lv z in let k = root.1 in
      let b : View = both v u in
      let mid : List View = set s.views id b in let all : List View = set mid other spent in
      let at-u : get_elem? s.views other ≡ some u = sym (set_else s.views id other b apart) ∙ there in
      let fv : Fits from r.made r.history v = r.each id v at lv in
      let fu : Fits from r.made r.history u = r.each other u at-u lu in
      let inside : id < length s.views = within s.views id v at in
      let here : get_elem? all id ≡ some b = set_else mid other id spent (λ q. apart (sym q)) ∙ set_here s.views id b inside in
      let begins : IsPrefix b.seen r.history = choose (λ l. IsPrefix l r.history) v.seen u.seen (nat_lt (length v.seen) (length u.seen)) fv.prefix fu.prefix in
      let two = terms_le lives s.views id other v u apart at at-u in
      let ahead = longer_begins v.seen u.seen r.history fv.prefix fu.prefix (nat_lt (length v.seen) (length u.seen)) refl in
      -- a live pass is the root, or one that was there and is not the other
      let was : (j : ℕ) (x : View) → get_elem? all j ≡ some x → x.live ≡ 1 → (j ≢ other) × (((j ≡ id) × (b ≡ x)) ⊎ ((j ≢ id) × (get_elem? s.views j ≡ some x))) = λ j x e lx. ⊎_elim
      (λ (t : (j ≡ other) × (spent ≡ x)). absurd (omega (arith, ap lives t.1, lx)))
      (λ (t : (j ≢ other) × (get_elem? mid j ≡ some x)). (t.0, at_set s.views id j b x t.1))
      (at_set mid other j spent x e) in
      let old : (j : ℕ) (x : View) → get_elem? all j ≡ some x → x.live ≡ 1 → (y : View) × (get_elem? s.views j ≡ some y) × (y.live ≡ 1) × (y.number ≡ x.number) = λ j x e lx. ⊎_elim
      (λ (t : (j ≡ id) × (b ≡ x)). (v, subst (λ (i : ℕ). get_elem? s.views i ≡ some v) (sym t.0) at, lv, ap (λ (y : View). y.number) t.1))
      (λ (t : (j ≢ id) × (get_elem? s.views j ≡ some x)). (x, t.1, lx, refl))
      (was j x e lx).1 in
      let whole : (v.seen ≡ r.history) ⊎ (u.seen ≡ r.history) → b.seen ≡ r.history = λ w. longer_whole v.seen u.seen r.history fv.prefix fu.prefix w (nat_lt (length v.seen) (length u.seen)) refl in
      record {
        history = r.history;
        turning = r.turning;
        made = r.made;
        out = r.out - 1;
        joined = r.joined ++ kept u ∷ [];
        wide = r.wide;
        deep = r.deep;
        word = r.word;
        root = (
          b,
          subst (λ (i : ℕ). get_elem? all i ≡ some b) root.0 here,
          record { live = lv; number = z; made = k.made; out = ap (λ (n : ℕ). n - 1) k.out; joined = ap (λ (l : List Kept). l ++ kept u ∷ []) k.joined },
          λ i g e. let t = at_end r.joined (kept u) g i e in dite (ℕ_discrete i (length r.joined))
              (λ last. subst (λ (g : Kept). own_calls g.number b.seen ≡ g.mine) (t.1 last) (between u.number u.seen b.seen r.history ahead.1 begins (fu.owned ∙ sym fu.own) ∙ fu.own))
              (λ ne. let f : Gone r.made r.history s.views g = r.gone i g (t.0 ne) in between g.number v.seen b.seen r.history ahead.0 begins (root.2 i g (t.0 ne) ∙ sym f.own) ∙ f.own),
        );
        counted = omega (arith, total-set lives mid other u spent there, total-set lives s.views id v b at, r.counted, two, lv, lu);
        turned = omega (arith, total-set turns mid other u spent there, total-set turns s.views id v b at, r.turned, tu);
        one = r.one;
        each = λ j x e lx. ⊎_elim
            (λ (t : (j ≡ id) × (b ≡ x)). subst (λ (y : View). Fits from r.made r.history y) t.1 (record { newer = fv.newer; opened_is = fv.opened_is; prefix = begins; own = fv.own; whole = λ on. absurd (omega (arith, on, tv)); owned = between v.number v.seen b.seen r.history ahead.0 begins (fv.owned ∙ sym fv.own) ∙ fv.own; was = ahead.0; heard = ahead.1 }))
            (λ (t : (j ≢ id) × (get_elem? s.views j ≡ some x)). r.each j x t.1 lx)
            (was j x e lx).1;
        dead = λ j x e. ⊎_elim
            (λ (t : (j ≡ other) × (spent ≡ x)). inr (ap lives (sym t.1), ap turns (sym t.1)))
            (λ (t : (j ≢ other) × (get_elem? mid j ≡ some x)). ⊎_elim
            (λ (q : (j ≡ id) × (b ≡ x)). inl (ap lives (sym q.1) ∙ lv))
            (λ (q : (j ≢ id) × (get_elem? s.views j ≡ some x)). r.dead j x q.1)
            (at_set s.views id j b x t.1))
            (at_set mid other j spent x e);
        apart = λ i j x y ex ey lx ly number. let p = old i x ex lx in let q = old j y ey ly in r.apart i j p.0 q.0 p.1 q.1 p.2 q.2 (p.3 ∙ (number ∙ sym q.3));
        whole = let w = r.whole in dite (ℕ_discrete w.0 other)
            (λ same. (id, b, here, lv, whole (inr (ap (λ (x : View). x.seen) (same_at s.views other w.0 u w.1 at-u w.2 (sym same)) ∙ w.4))))
            (λ ne. dite (ℕ_discrete w.0 id)
            (λ same. (id, b, here, lv, whole (inl (ap (λ (x : View). x.seen) (same_at s.views id w.0 v w.1 at w.2 (sym same)) ∙ w.4))))
            (λ no. (w.0, w.1, set_else mid other w.0 spent ne ∙ (set_else s.views id w.0 b no ∙ w.2), w.3, w.4)));
        gone = λ i g e. let t = at_end r.joined (kept u) g i e in dite (ℕ_discrete i (length r.joined))
            (λ last. subst (λ (g : Kept). Gone r.made r.history all g) (t.1 last) (record {
              newer = fu.newer;
              own = fu.own;
              alone = λ j x e lx same. let p = old j x e lx in (was j x e lx).0 (r.apart j other p.0 u p.1 at-u p.2 lu (p.3 ∙ same));
            }))
            (λ ne. let f : Gone r.made r.history s.views g = r.gone i g (t.0 ne) in record {
              newer = f.newer;
              own = f.own;
              alone = λ j x e lx same. let p = old j x e lx in f.alone j p.0 p.1 p.2 (p.3 ∙ same);
            });
        known = λ n le. ⊎_elim
            (λ (t : (i : ℕ) × (x : View) × (get_elem? s.views i ≡ some x) × (x.live ≡ 1) × (x.number ≡ n)). dite (ℕ_discrete t.0 other)
            (λ e. inr (length r.joined, kept u, at_last r.joined (kept u) (length r.joined) refl, ap (λ (x : View). x.number) (same_at s.views other t.0 u t.1 at-u t.2 (sym e)) ∙ t.4))
            (λ ne. dite (ℕ_discrete t.0 id)
            (λ e. inl (id, b, here, lv, ap (λ (x : View). x.number) (same_at s.views id t.0 v t.1 at t.2 (sym e)) ∙ t.4))
            (λ e. inl (t.0, t.1, set_else mid other t.0 spent ne ∙ (set_else s.views id t.0 b e ∙ t.2), t.3, t.4))))
            (λ (t : (i : ℕ) × (k : Kept) × (get_elem? r.joined i ≡ some k) × (k.number ≡ n)). inr (t.0, t.1, at_longer r.joined (kept u ∷ []) t.0 t.1 t.2, t.3))
            (r.known n le);
        unmade = r.unmade;
        home = r.home;
      }

  pub starts : (h : NodeCore) → At from [] h → Rule (opening (0 ∷ []) (h ∷ []) (view 0 1 0 from [] [] 1 0 [] [] []))
  starts h stands = let w : View = view 0 1 0 from [] [] 1 0 [] [] [] in
      let only : (j : ℕ) (v : View) → get_elem? (w ∷ []) j ≡ some v → (j ≡ 0) × (w ≡ v) = λ j v e. let t = at_end [] w v j e in dite (ℕ_discrete j 0) (λ z. (z, t.1 z)) (λ n. absurd (some-ne-none v (sym (t.0 n)))) in
      record {
        history = [];
        turning = 0;
        made = 1;
        out = 0;
        joined = [];
        wide = refl;
        deep = refl;
        word = refl;
        root = (w, refl, record { live = refl; number = refl; made = refl; out = refl; joined = refl }, λ i k e. absurd (some-ne-none k (sym e)));
        counted = refl;
        turned = refl;
        one = omega arith;
        each = λ j v e lv. subst (λ (x : View). Fits from 1 [] x) (only j v e).1 (record { newer = omega arith; opened_is = refl; prefix = prefix_self []; own = refl; whole = λ _. refl; owned = refl; was = prefix_self []; heard = prefix_self [] });
        dead = λ j v e. inl (ap lives (sym (only j v e).1));
        apart = λ i j a b ea eb la lb number. (only i a ea).0 ∙ sym (only j b eb).0;
        whole = (0, w, refl, refl, refl);
        gone = λ i k e. absurd (some-ne-none k (sym e));
        known = λ n le. inl (0, w, refl, refl, omega arith);
        unmade = λ n le. refl;
        home = λ _. (h, refl, stands);
      }

  -- the table was closed by the root, and no other pass was out: the core in the slot is the one at the end of what the root has seen
  pub closes : (id : ℕ) (v : View) (ws : List ℕ) (xs : List NodeCore) → IsAlone v → Final (Seen Rule id v) ws xs → (h : NodeCore) × (get_elem? xs 0 ≡ some h) × At v.opened v.seen h × HasJust v × NoOther v
  closes id v ws xs a f = let s = f.0 in let r : Rule s = f.1.0 in let at = f.1.1 in
      let fit : Fits from r.made r.history v = r.each id v at a.live in
      let t = alone s r id v at a in let h = r.home t.1 in
      let k = (rooted s r id v at a.live a.number).1 in (
        h.0,
        f.4 0 h.0 h.1,
        subst (λ (l : History). At v.opened l h.0) (sym t.0) (subst (λ (f : Opened). At f r.history h.0) (sym fit.opened_is) h.2),
        (ap (own_calls v.number) t.0 ∙ fit.own, λ z. λ i j e. ap (own_calls j.number) t.0 ∙ (r.gone i j (subst (λ (l : List Kept). get_elem? l i ≡ some j) k.joined e)).own),
        λ n ne none-joined. ap (own_calls n) t.0 ∙ dite (dec_le r.made n)
            (λ le. r.unmade n le)
            (λ le. ⊎_elim
            (λ (q : (i : ℕ) × (x : View) × (get_elem? s.views i ≡ some x) × (x.live ≡ 1) × (x.number ≡ n)). absurd (ne (sym (ap (λ (x : View). x.number) ((lone s r id v at a).1 q.0 q.1 q.2 q.3) ∙ q.4))))
            (λ (q : (i : ℕ) × (j : Kept) × (get_elem? r.joined i ≡ some j) × (j.number ≡ n)). absurd (none-joined q.0 q.1 (subst (λ (l : List Kept). get_elem? l q.0 ≡ some q.1) (sym k.joined) q.2) q.3))
            (r.known n (omega arith))),
      )

  pub meets : (slots id : ℕ) (me : Sat) → me.0.live ≡ 1 → Allows Rule slots id me 0 (λ n. n) (met (step slots 0 0 0 none) me)
  meets slots id me lv s r wide at small = let fit : Fits from r.made r.history me.0 = r.each id me.0 at lv in
      (me.0, keeps, tt, unmoved s r id me.0 me.1 at, (refl, (fit.was, fit.heard, (fit.owned, λ z. let t = rooted s r id me.0 at lv z in subst (λ (l : List Kept). EachJoined l me.0.seen) (sym t.1.joined) t.2))))
