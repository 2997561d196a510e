-- The deeds of agents, one after the other.
use Rattle.std.proofs.Common.{◌≡◌, ◌<◌, ℕ, ◌+◌, get_or, List, [], ◌∷◌, ◌++◌, length, refl, sym, ap, ◌∙◌, subst, Some, true, false, Result, Ok, Err}
use Rattle.std.proofs.lemmas.Option.{slice_get-get_or}
use Rattle.std.specs.Prelude.{MatchResult}
use Rattle.std.specs.Prelude.{slice_get, slice_set}
use Rattle.grasp_core.specs.declared.node_core.NodeCore.{NodeCore}
use Rattle.grasp_cbor.proofs.Facts.Lists.{length_push}
use Rattle.grasp_crew.specs.Servants.{is_due, call_of, after_call}
use Rattle.grasp_crew.specs.declared.servant.Servant.{Servant}
use Rattle.grasp_disk.specs.Calls.{DiskLog}
use Rattle.grasp_shared.proofs.Adding.{adds_on, adds_nothing}
use Rattle.grasp_shared.specs.Adding.{Adds}
use Rattle.grasp_shared.specs.Calls.{GoesOn, answered}
use Rattle.grasp_shelf.proofs.Keeping.{kept_none, kept_then}
use Rattle.grasp_shelf.specs.Shelves.{ShelfState, KeptOn}
use Rattle.grasp_types.specs.declared.reply.Reply.{Reply}
use Rattle.grasp_types.specs.declared.traffic.Input.{Input}
use Rattle.grasp_service_visits.specs.Calling.{is_starved}
use Rattle.grasp_service_visits.proofs.Going.{some_none, some_step}
use Rattle.grasp_service_visits.proofs.Each.{after_none, after_next, after_more, adds_more, adds_none, each_more}
use Rattle.grasp_service_visits.specs.Each.{each_after, each_adds}
use Rattle.grasp_service.proofs.Kept.{then_none, then_more, kept_same, cut_memory, cut_before, cut_asked}
use Rattle.grasp_service.specs.Cuts.{IsCutAsking, IsCutAround, behind_call, IsCut, CutsAround, CutsOff}
use Rattle.grasp_service.specs.Deeds.{Deed, rests, calls, told_at, IsDeed, after_deed, deed_calls, kept_deed, kept_deeds, DeedGoes, Acts, ActsSome}
use Rattle.grasp_service.specs.Deeds.{ActsAll}
use Rattle.grasp_service.specs.Keeping.{kept_ahead, kept_after, behind_of}
use Rattle.grasp_service.specs.declared.cut.Cut.{Cut}
use Rattle.grasp_service.specs.declared.cut.Cut.TheVariants as cut

-- the calls of one deed
deed_adds : (a b : NodeCore) (now caller : ℕ) (m : Servant) (d : Deed) → DeedGoes a now m d b → Adds a (deed_calls now caller m d) b
deed_adds a b now caller m rests p = subst (λ x. Adds a [] x) (sym p) (adds_nothing a)
deed_adds a b now caller m (calls r) p = p.goes caller

module _ {B : Type 0} (stands : B → DiskLog → Type 0) (faults : B → ℕ) where
  -- none acted
  pub acts_none : (a : NodeCore) (crew : List Servant) (s : ShelfState B) (now : ℕ) → ActsSome stands faults 0 a crew s now a crew s
  acts_none a crew s now = record {
    deeds = [];
    count_is = refl;
    each = tt;
    adds = subst (λ h. Adds a h a) (sym (adds_none (deed_calls now) 1 crew)) (adds_nothing a);
    crew_is = sym (after_none (after_deed now) crew);
    kept = kept_same stands faults s s (λ log. log) (kept_deeds now crew []) (λ log. sym (then_none (kept_deed now) crew log)) (kept_none stands faults s);
  }

  -- one more did
  acts_more : (count : ℕ) (a b c : NodeCore) (crew others news : List Servant) (s t u : ShelfState B) (now : ℕ) (m n : Servant)
      → ActsSome stands faults count a crew s now b others t → slice_get crew count ≡ Some m
      → Acts stands faults b m t now c n u → news ≡ slice_set others count n → ActsSome stands faults (count + 1) a crew s now c news u
  acts_more count a b c crew others news s t u now m n p g q set =
      let is : slice_get crew (length p.deeds) ≡ Some m = subst (λ i. slice_get crew i ≡ Some m) (sym p.count_is) g in
      record {
        deeds = p.deeds ++ q.deed ∷ [];
        count_is = length_push p.deeds q.deed ∙ ap (λ i. i + 1) p.count_is;
        each = each_more (IsDeed now) crew p.deeds m q.deed is p.each q.is;
        adds =
            subst (λ h. Adds a h c) (sym (adds_more (deed_calls now) 1 crew p.deeds m q.deed is))
            (adds_on a b c _ (deed_calls now (1 + length p.deeds) m q.deed) p.adds (deed_adds b c now (1 + length p.deeds) m q.deed q.went));
        crew_is =
            set ∙ ap (λ i. slice_set others i n) (sym p.count_is) ∙ ap (λ ss. slice_set ss (length p.deeds) n) p.crew_is
            ∙ ap (λ x. slice_set (each_after (after_deed now) crew p.deeds) (length p.deeds) x) q.agent
            ∙ sym (after_more (after_deed now) crew p.deeds m q.deed is);
        kept = kept_same stands faults s u (λ log. kept_deed now m q.deed (kept_deeds now crew p.deeds log)) (kept_deeds now crew (p.deeds ++ q.deed ∷ []))
            (λ log. sym (then_more (kept_deed now) crew p.deeds m q.deed log is))
            (kept_then stands faults s t u (kept_deeds now crew p.deeds) (kept_deed now m q.deed) p.kept q.kept);
      }

  -- the next one did
  pub acts_next : (count : ℕ) (a b c : NodeCore) (crew others : List Servant) (s t u : ShelfState B) (now : ℕ) (d n : Servant)
      → ActsSome stands faults count a crew s now b others t → count < length others
      → Acts stands faults b (get_or others count d) t now c n u → ActsSome stands faults (count + 1) a crew s now c (slice_set others count n) u
  acts_next count a b c crew others s t u now d n p h q =
      let f : Servant → Deed → Servant = after_deed now in
      let is : slice_get crew count ≡ Some (get_or others count d) =
      sym (ap (λ i. slice_get crew i) p.count_is) ∙ sym (after_next f crew p.deeds) ∙ ap (λ i. slice_get (each_after f crew p.deeds) i) p.count_is
      ∙ ap (λ x. slice_get x count) (sym p.crew_is) ∙ slice_get-get_or others count d h in
      acts_more count a b c crew others (slice_set others count n) s t u now (get_or others count d) n p is q refl

  -- ---- one deed

  pub acts_resting : (a : NodeCore) (m n : Servant) (s : ShelfState B) (now : ℕ) → n ≡ told_at now m → is_due n ≡ false → Acts stands faults a m s now a n s
  acts_resting a m n s now e d = record { deed = rests; is = subst (λ x. is_due x ≡ false) e d; went = refl; agent = e; kept = kept_none stands faults s }

  -- an agent made its call, and its store was asked before it and behind it
  acts_calling : (a b : NodeCore) (m t n : Servant) (s x y : ShelfState B) (now : ℕ) (i : Input) (r : Reply) → t ≡ told_at now m → is_due t ≡ true
      → i ≡ call_of t → GoesOn a (answered 0 i r) b
      → is_starved r ≡ false → n ≡ after_call now t r → KeptOn stands faults s (kept_ahead t) x → KeptOn stands faults x (kept_after n) y
      → Acts stands faults a m s now b n y
  acts_calling a b m t n s x y now i r e d c g h o ahead behind = record {
    deed = calls r;
    is = (subst (λ k. is_due k ≡ true) e d, h);
    went = subst (λ k. GoesOn a (answered 0 k r) b) (c ∙ ap (λ k. call_of k) e) g;
    agent = o ∙ ap (λ k. after_call now k r) e;
    kept = kept_then stands faults s x y (kept_ahead (told_at now m)) (kept_after (after_call now (told_at now m) r))
        (subst (λ k. KeptOn stands faults s (kept_ahead k) x) e ahead)
        (subst (λ k. KeptOn stands faults x (kept_after k) y) (o ∙ ap (λ k. after_call now k r) e) behind);
  }

  -- the store has a fault behind the call
  around_behind : (t n : Servant) (s x y : ShelfState B) (now : ℕ) (r : Reply) (why : Cut) → is_due t ≡ true → is_starved r ≡ false
      → n ≡ after_call now t r → KeptOn stands faults s (kept_ahead t) x → IsCutAsking stands faults x (behind_of n) why y
      → IsCutAround stands faults now t s why y
  around_behind t n s x y now r cut.OutOfMemory d h o ahead fails = tt
  around_behind t n s x y now r (cut.Store fault) d h o ahead fails =
      (d, behind_call r x h ahead (subst (λ k. IsCutAsking stands faults x (behind_of k) (cut.Store fault) y) o fails))

  -- it did, or it was cut short behind its call
  pub acts_through : (z : Result (Unit {0}) Cut) (a b : NodeCore) (m t n : Servant) (s x y : ShelfState B) (now : ℕ) (i : Input) (r : Reply)
      → t ≡ told_at now m → is_due t ≡ true → i ≡ call_of t
      → GoesOn a (answered 0 i r) b → is_starved r ≡ false → n ≡ after_call now t r → KeptOn stands faults s (kept_ahead t) x → MatchResult z
      (λ _. KeptOn stands faults x (kept_after n) y) (λ why. IsCutAsking stands faults x (behind_of n) why y)
      → MatchResult z (λ _. Acts stands faults a m s now b n y) (λ why. CutsAround stands faults a now (told_at now m) s why b y)
  acts_through (Ok u) a b m t n s x y now i r e d c g h o ahead behind = acts_calling a b m t n s x y now i r e d c g h o ahead behind
  acts_through (Err why) a b m t n s x y now i r e d c g h o ahead behind = record {
    some = some_step a b (answered 0 i r) g;
    is = subst (λ k. IsCutAround stands faults now k s why y) e (around_behind t n s x y now r why d h o ahead behind);
  }

  -- ---- all deeds

  -- so many acted, and the next one was cut short
  cut_among : (count : ℕ) (a b : NodeCore) (crew others : List Servant) (s t u : ShelfState B) (now : ℕ) (m : Servant) (why : Cut)
      → ActsSome stands faults count a crew s now b others t → slice_get crew (count) ≡ Some m
      → IsCutAround stands faults now (told_at now m) t why u → IsCut stands faults now crew s why u
  cut_among count a b crew others s t u now m cut.OutOfMemory p at is = tt
  cut_among count a b crew others s t u now m (cut.Store fault) p at is = record {
    deeds = p.deeds;
    each = p.each;
    agent = m;
    at = subst (λ i. slice_get crew i ≡ Some m) (sym p.count_is) at;
    due = is.0;
    middle = t;
    kept = p.kept;
    fails = is.1;
  }

  pub acts_cut : (count : ℕ) (a b c : NodeCore) (crew others : List Servant) (s t u : ShelfState B) (now : ℕ) (d : Servant) (why : Cut)
      → ActsSome stands faults count a crew s now b others t → count < length others
      → CutsAround stands faults b now (told_at now (get_or others count d)) t why c u → CutsOff stands faults a now crew s why c u
  acts_cut count a b c crew others s t u now d why p h q =
      let f : Servant → Deed → Servant = after_deed now in
      let at : slice_get crew count ≡ Some (get_or others count d) =
      sym (ap (λ i. slice_get crew i) p.count_is) ∙ sym (after_next f crew p.deeds) ∙ ap (λ i. slice_get (each_after f crew p.deeds) i) p.count_is
      ∙ ap (λ x. slice_get x count) (sym p.crew_is) ∙ slice_get-get_or others count d h in
      record {
        some = record { calls = each_adds (deed_calls now) 1 crew p.deeds ++ q.some.calls; adds = adds_on a b c _ _ p.adds q.some.adds };
        is = cut_among count a b crew others s t u now (get_or others count d) why p at q.is;
      }

  pub acts_all : (count : ℕ) (a b : NodeCore) (crew others : List Servant) (s t : ShelfState B) (now : ℕ)
      → ActsSome stands faults count a crew s now b others t → count ≡ length crew
      → ActsAll stands faults a crew s now b others t
  acts_all count a b crew others s t now p e = record {
    deeds = p.deeds;
    count = p.count_is ∙ e;
    each = p.each;
    adds = p.adds;
    crew_is = p.crew_is;
    kept = p.kept;
  }

pub ruleset acting = (some_none, some_step, cut_memory, cut_before, acts_resting, acts_through)

-- the store was asked behind a call, or the round was cut short
pub ruleset taking = (cut_asked)
