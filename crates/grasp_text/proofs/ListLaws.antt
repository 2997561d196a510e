-- Lists of locators and parts of floods are read where their words are, and nowhere else.
use Rattle.std.proofs.Common.{◌≡◌, ℕ, zero, suc, ◌<◌, ◌≤◌, ◌⊎◌, inl, inr, Bool, true, false, cond, List, [], ◌∷◌, ◌++◌, length, Option, Some, None, Ok, Err, refl, sym, ap, subst, ◌∙◌, append_assoc, arith, length-append}
use Rattle.std.specs.List.{AllByRecursion}
use Rattle.std.specs.Prelude.{IfSome, codes, All}
use Rattle.std.proofs.lemmas.List.{append-nil}
use Rattle.std.proofs.lemmas.List.Elements.{All-from_recursion, All-head, All-tail}
use Rattle.grasp_cbor.proofs.Facts.Bools.{chosen_yes, chosen_no}
use Rattle.grasp_types.specs.Address.{IsLocator}
use Rattle.grasp_types.specs.Message.{AreLocators, AreFloodParts, IsFloodPart}
use Rattle.grasp_types.specs.declared.address.Locator.{Locator}
use Rattle.grasp_types.specs.declared.flood.FloodPart.{FloodPart}
use Rattle.grasp_types.specs.declared.objective.Objective.{Objective}
use Rattle.grasp_text.specs.Grammar.{ending, objective_at, final_objective_at, last_objective, locator_at, begins_objective, locators_step, locators_at, answers_at, optional_locator_at, flood_part_at, parts_step, parts_at, flood_parts_at}
use Rattle.grasp_text.specs.Line.{objective_words, locator_words, locator_or_none, all_locator_words, optional_objective_words, flood_part_words, all_flood_part_words}
use Rattle.grasp_text.specs.Reading.{Parsed, ◌>>=◌}
use Rattle.grasp_text.specs.Words.{is_over, is_next}
use Rattle.grasp_text.proofs.Lawful.{Anything, Nothing, Lawful, Only, Then, Made, Starts, or_end_lawful, branch_lawful, then_lawful, then_all, made_lawful, restated, rewritten, none_lawful}
use Rattle.grasp_text.proofs.PartLaws.{ending_lawful, ObjectiveWords, objective_lawful, objective_takes, objective_starts, LocatorWords, locator_lawful, locator_takes, locator_starts, locator_shorter, OptionalLocatorWords, optional_lawful}
use Rattle.grasp_text.proofs.Until.{IsLocal, until_step}

-- ---- an objective at the end

final_to : (o : Objective) (ws : List (List ℕ)) → Then ObjectiveWords (λ a. Only a) o ws → ObjectiveWords o ws
final_to o ws t =
    let w : ObjectiveWords t.first t.front = t.is in
    let whole : ws ≡ objective_words t.first = t.parts ∙ ap (λ (x : List (List ℕ)). t.front ++ x) t.others.words ∙ append-nil t.front ∙ w.spelled in
    subst (λ (x : Objective). ObjectiveWords x ws) (sym t.others.value) (record { ranges = w.ranges; spelled = whole })

final_from : (o : Objective) (ws : List (List ℕ)) → ObjectiveWords o ws → Then ObjectiveWords (λ a. Only a) o ws
final_from o ws w = record { first = o; front = ws; rest = []; is = w; others = record { value = refl; words = refl }; parts = sym (append-nil ws) }

pub final_lawful : (k : ℕ) → Lawful k Nothing ObjectiveWords final_objective_at
final_lawful k = restated k Nothing (Then ObjectiveWords (λ a. Only a)) ObjectiveWords final_objective_at
    (then_all Nothing ObjectiveWords (λ a. Only a) objective_at (λ o ws. ending o ws) objective_lawful (λ o k. ending_lawful o k) objective_takes k) final_to final_from

-- ---- the other locators of a response, and its objective

abbrev Answers : Type 0
Answers = List Locator × Option Objective

with_objective : List Locator → Objective → Answers
with_objective locators o = (locators, Some o)

-- the words of locators that come after others, and of an objective
record MoreAnswers (before : List Locator) (x : Answers) (ws : List (List ℕ)) : Type 0 where
  others : List Locator
  locators : x.0 ≡ before ++ others
  ranges : AllByRecursion IsLocator others
  objective : IfSome x.1 (λ o. ObjectiveWords o (objective_words o))
  spelled : ws ≡ all_locator_words others ++ optional_objective_words x.1

abbrev AnswersStep : List Locator → Answers → List (List ℕ) → Type 0
AnswersStep before x ws = Only (before, None) x ws ⊎ (Made (with_objective before) ObjectiveWords x ws ⊎ Then LocatorWords (λ l. MoreAnswers (before ++ l ∷ [])) x ws)

answers_to : (before : List Locator) (x : Answers) (ws : List (List ℕ)) → AnswersStep before x ws → MoreAnswers before x ws
unfolding with_objective
answers_to before x ws (inl o) = subst (λ (y : Answers). MoreAnswers before y ws) (sym o.value) (record { others = []; locators = sym (append-nil before); ranges = tt; objective = tt; spelled = o.words })
answers_to before x ws (inr (inl m)) =
    let w : ObjectiveWords m.from ws = m.words in
    subst (λ (y : Answers). MoreAnswers before y ws) (sym m.is) (record { others = []; locators = sym (append-nil before); ranges = tt; objective = record { ranges = w.ranges; spelled = refl }; spelled = w.spelled })
answers_to before x ws (inr (inr t)) =
    let w : LocatorWords t.first t.front = t.is in
    let m = t.others in
    record {
      others = t.first ∷ m.others;
      locators = m.locators ∙ append_assoc before (t.first ∷ []) m.others;
      ranges = (w.ranges, m.ranges);
      objective = m.objective;
      spelled = t.parts ∙ ap (λ (y : List (List ℕ)). y ++ t.rest) w.spelled ∙ ap (λ (y : List (List ℕ)). locator_words t.first ++ y) m.spelled ∙ sym (append_assoc (locator_words t.first) (all_locator_words m.others) (optional_objective_words x.1));
    }

answers_from_none : (before : List Locator) (ls : List Locator) (o : Option Objective) (ws : List (List ℕ)) → ls ≡ before → IfSome o (λ o. ObjectiveWords o (objective_words o)) → ws ≡ optional_objective_words o → AnswersStep before (ls, o) ws
unfolding with_objective
answers_from_none before ls None ws e w spelled = inl (record { value = ap (λ (y : List Locator). (y, None)) e; words = spelled })
answers_from_none before ls (Some o) ws e w spelled = inr (inl (record { from = o; is = ap (λ (y : List Locator). (y, Some o)) e; words = record { ranges = w.ranges; spelled = spelled } }))

answers_from_at : (before : List Locator) (x : Answers) (ws : List (List ℕ)) (others : List Locator) → x.0 ≡ before ++ others → AllByRecursion IsLocator others → IfSome x.1 (λ o. ObjectiveWords o (objective_words o)) → ws ≡ all_locator_words others ++ optional_objective_words x.1 → AnswersStep before x ws
answers_from_at before x ws [] e r w spelled = answers_from_none before x.0 x.1 ws (e ∙ append-nil before) w spelled
answers_from_at before x ws (l ∷ others) e r w spelled = inr (inr (record {
  first = l;
  front = locator_words l;
  rest = all_locator_words others ++ optional_objective_words x.1;
  is = record { ranges = r.0; spelled = refl };
  others = record { others = others; locators = e ∙ sym (append_assoc before (l ∷ []) others); ranges = r.1; objective = w; spelled = refl };
  parts = spelled ∙ append_assoc (locator_words l) (all_locator_words others) (optional_objective_words x.1);
}))

answers_from : (before : List Locator) (x : Answers) (ws : List (List ℕ)) → MoreAnswers before x ws → AnswersStep before x ws
answers_from before x ws m = answers_from_at before x ws m.others m.locators m.ranges m.objective m.spelled

-- the step goes on behind a locator alone, with fewer words
locators_local_at : (f g : List Locator → List (List ℕ) → Parsed Answers) (before : List Locator) (ws : List (List ℕ)) (r : Parsed Locator) → ((t : List Locator) (us : List (List ℕ)) → length us < length ws → f t us ≡ g t us) → locator_at ws ≡ r → (r >>= λ next. f (before ++ next.0 ∷ []) next.1) ≡ (r >>= λ next. g (before ++ next.0 ∷ []) next.1)
locators_local_at f g before ws (Err n) same e = refl
locators_local_at f g before ws (Ok x) same e = same (before ++ x.0 ∷ []) x.1 (locator_shorter ws x.0 x.1 e)

locators_local : IsLocal locators_step
locators_local f g before [] same = refl
locators_local f g before (w ∷ ws) same = ap (λ (r : Parsed Answers). cond (begins_objective w) (last_objective before (w ∷ ws)) r) (locators_local_at f g before (w ∷ ws) (locator_at (w ∷ ws)) same refl)

pub locators_again : (before : List Locator) (ws : List (List ℕ)) → locators_at before ws ≡ locators_step locators_at before ws
locators_again before ws = until_step locators_step locators_local before ws

last_lawful : (before : List Locator) (k : ℕ) → Lawful k Nothing (Made (with_objective before) ObjectiveWords) (last_objective before)
unfolding with_objective
last_lawful before k = made_lawful k Nothing ObjectiveWords final_objective_at (with_objective before) (final_lawful k)

last_starts : (before : List Locator) (x : Answers) (ws : List (List ℕ)) → Made (with_objective before) ObjectiveWords x ws → Starts begins_objective true ws
last_starts before x ws m = objective_starts m.from ws m.words

behind_start : (test : List ℕ → Bool) (answer : Bool) (front rest ws : List (List ℕ)) → Starts test answer front → ws ≡ front ++ rest → Starts test answer ws
behind_start test answer front rest ws s e = record { word = s.word; others = s.others ++ rest; parts = e ∙ ap (λ (y : List (List ℕ)). y ++ rest) s.parts; says = s.says }

then_starts : (before : List Locator) (x : Answers) (ws : List (List ℕ)) → Then LocatorWords (λ l. MoreAnswers (before ++ l ∷ [])) x ws → Starts begins_objective false ws
then_starts before x ws t = behind_start begins_objective false t.front t.rest ws (locator_starts t.first t.front t.is) t.parts

not_empty : (test : List ℕ → Bool) (answer : Bool) → ¬ (Starts test answer [])
not_empty test answer s = let e = s.parts in cc

step_takes : (before : List Locator) (x : Answers) → ¬ (Made (with_objective before) ObjectiveWords x [] ⊎ Then LocatorWords (λ l. MoreAnswers (before ++ l ∷ [])) x [])
step_takes before x (inl m) = not_empty begins_objective true (last_starts before x [] m)
step_takes before x (inr t) = not_empty begins_objective false (then_starts before x [] t)

locators_lawful : (k : ℕ) (before : List Locator) → Lawful k Nothing (MoreAnswers before) (locators_at before)
locators_lawful zero before = none_lawful Nothing (MoreAnswers before) (locators_at before) (before, None) [] (record { others = []; locators = sym (append-nil before); ranges = tt; objective = tt; spelled = refl })
locators_lawful (suc k) before =
    rewritten (suc k) Nothing (MoreAnswers before) (λ ws. locators_step locators_at before ws) (locators_at before)
    (restated (suc k) Nothing (AnswersStep before) (MoreAnswers before) (λ ws. locators_step locators_at before ws)
    (or_end_lawful (suc k) (before, None) (λ x ws. Made (with_objective before) ObjectiveWords x ws ⊎ Then LocatorWords (λ l. MoreAnswers (before ++ l ∷ [])) x ws) _
    (branch_lawful (suc k) Nothing begins_objective (Made (with_objective before) ObjectiveWords) (Then LocatorWords (λ l. MoreAnswers (before ++ l ∷ []))) (last_objective before) _
    (last_lawful before (suc k))
    (then_lawful k Nothing LocatorWords (λ l. MoreAnswers (before ++ l ∷ [])) locator_at (λ l ws. locators_at (before ++ l ∷ []) ws) locator_lawful (λ l. locators_lawful k (before ++ l ∷ [])) locator_takes)
    (last_starts before) (then_starts before))
    (step_takes before))
    (answers_to before) (answers_from before))
    (locators_again before)

-- the words of one or more locators, and of an objective
pub record AnswersWords (x : Answers) (ws : List (List ℕ)) : Type 0 where
  pub locators : AreLocators x.0
  pub objective : IfSome x.1 (λ o. ObjectiveWords o (objective_words o))
  pub spelled : ws ≡ all_locator_words x.0 ++ optional_objective_words x.1

all_locators : (ls : List Locator) → AllByRecursion IsLocator ls → All IsLocator ls
all_locators ls h = All-from_recursion IsLocator ls h

locators_all : (ls : List Locator) → All IsLocator ls → AllByRecursion IsLocator ls
locators_all [] h = tt
locators_all (l ∷ ls) h = (All-head IsLocator l ls h, locators_all ls (All-tail IsLocator l ls h))

whole_to : (x : Answers) (ws : List (List ℕ)) → Then LocatorWords (λ l. MoreAnswers (l ∷ [])) x ws → AnswersWords x ws
whole_to x ws t =
    let w : LocatorWords t.first t.front = t.is in
    let m = t.others in
    let some : 1 ≤ length x.0 = omega (arith, ap length m.locators) in
    record {
      locators = record { some = some; each = subst (λ (y : List Locator). All IsLocator y) (sym m.locators) (all_locators (t.first ∷ m.others) (w.ranges, m.ranges)) };
      objective = m.objective;
      spelled = t.parts ∙ ap (λ (y : List (List ℕ)). y ++ t.rest) w.spelled ∙ ap (λ (y : List (List ℕ)). locator_words t.first ++ y) m.spelled
          ∙ sym (append_assoc (locator_words t.first) (all_locator_words m.others) (optional_objective_words x.1)) ∙ ap (λ (y : List Locator). all_locator_words y ++ optional_objective_words x.1) (sym m.locators);
    }

whole_from_at : (ls : List Locator) (o : Option Objective) (ws : List (List ℕ)) → AnswersWords (ls, o) ws → Then LocatorWords (λ l. MoreAnswers (l ∷ [])) (ls, o) ws
whole_from_at [] o ws a = absurd (let some = a.locators.some in omega arith)
whole_from_at (l ∷ ls) o ws a = record {
  first = l;
  front = locator_words l;
  rest = all_locator_words ls ++ optional_objective_words o;
  is = record { ranges = All-head IsLocator l ls a.locators.each; spelled = refl };
  others = record { others = ls; locators = refl; ranges = locators_all ls (All-tail IsLocator l ls a.locators.each); objective = a.objective; spelled = refl };
  parts = a.spelled ∙ append_assoc (locator_words l) (all_locator_words ls) (optional_objective_words o);
}

whole_from : (x : Answers) (ws : List (List ℕ)) → AnswersWords x ws → Then LocatorWords (λ l. MoreAnswers (l ∷ [])) x ws
whole_from x ws a = whole_from_at x.0 x.1 ws a

pub answers_lawful : (k : ℕ) → Lawful k Nothing AnswersWords answers_at
unfolding answers_at
answers_lawful k = restated k Nothing (Then LocatorWords (λ l. MoreAnswers (l ∷ []))) AnswersWords _
    (then_all Nothing LocatorWords (λ l. MoreAnswers (l ∷ [])) locator_at (λ l ws. locators_at (l ∷ []) ws) locator_lawful (λ l k. locators_lawful k (l ∷ [])) locator_takes k) whole_to whole_from

-- ---- parts of a flood

-- the words of this part, each within its range
pub record PartWords (part : FloodPart) (ws : List (List ℕ)) : Type 0 where
  pub ranges : IsFloodPart part
  pub spelled : ws ≡ flood_part_words part

part_of : Objective → Option Locator → FloodPart
part_of o l = record { objective = o; locator = l }

abbrev PartThen : FloodPart → List (List ℕ) → Type 0
PartThen = Then ObjectiveWords (λ o. Made (part_of o) OptionalLocatorWords)

part_to : (part : FloodPart) (ws : List (List ℕ)) → PartThen part ws → PartWords part ws
unfolding part_of
part_to part ws t =
    let w : ObjectiveWords t.first t.front = t.is in
    let m = t.others in
    let l : OptionalLocatorWords m.from t.rest = m.words in
    subst (λ (x : FloodPart). PartWords x ws) (sym m.is) (record {
      ranges = record { objective = w.ranges; locator = l.ranges };
      spelled = t.parts ∙ ap (λ (y : List (List ℕ)). y ++ t.rest) w.spelled ∙ ap (λ (y : List (List ℕ)). objective_words t.first ++ y) l.spelled;
    })

part_from : (part : FloodPart) (ws : List (List ℕ)) → PartWords part ws → PartThen part ws
unfolding part_of
part_from part ws w = record {
  first = part.objective;
  front = objective_words part.objective;
  rest = locator_or_none part.locator;
  is = record { ranges = w.ranges.objective; spelled = refl };
  others = record { from = part.locator; is = refl; words = record { ranges = w.ranges.locator; spelled = refl } };
  parts = w.spelled;
}

pub part_lawful : (k : ℕ) → Lawful k Anything PartWords flood_part_at
unfolding flood_part_at part_of
part_lawful k = restated k Anything PartThen PartWords _
    (then_all Anything ObjectiveWords (λ o. Made (part_of o) OptionalLocatorWords) objective_at _ objective_lawful (λ o k. made_lawful k Anything OptionalLocatorWords optional_locator_at (part_of o) (optional_lawful k)) objective_takes k) part_to part_from

part_long : (part : FloodPart) (ws : List (List ℕ)) → PartWords part ws → 0 < length ws
part_long part ws w = omega (arith, ap length w.spelled, length-append (objective_words part.objective) (locator_or_none part.locator))

part_takes : (part : FloodPart) → ¬ (PartWords part [])
part_takes part w = absurd (omega (arith, part_long part [] w))

pub part_shorter : (ws : List (List ℕ)) (part : FloodPart) (rest : List (List ℕ)) → flood_part_at ws ≡ Ok (part, rest) → length rest < length ws
part_shorter ws part rest e =
    let h = (part_lawful (suc (length ws))).only ws part rest (omega arith) e in
    omega (arith, ap length h.3, length-append h.1 rest, part_long part h.1 h.2)

-- the words of parts that come after others
record MoreParts (before : List FloodPart) (parts : List FloodPart) (ws : List (List ℕ)) : Type 0 where
  others : List FloodPart
  parts_are : parts ≡ before ++ others
  ranges : AllByRecursion IsFloodPart others
  spelled : ws ≡ all_flood_part_words others

abbrev PartsStep : List FloodPart → List FloodPart → List (List ℕ) → Type 0
PartsStep before parts ws = Only before parts ws ⊎ Then PartWords (λ p. MoreParts (before ++ p ∷ [])) parts ws

parts_to : (before parts : List FloodPart) (ws : List (List ℕ)) → PartsStep before parts ws → MoreParts before parts ws
parts_to before parts ws (inl o) = record { others = []; parts_are = o.value ∙ sym (append-nil before); ranges = tt; spelled = o.words }
parts_to before parts ws (inr t) =
    let w : PartWords t.first t.front = t.is in
    let m = t.others in
    record {
      others = t.first ∷ m.others;
      parts_are = m.parts_are ∙ append_assoc before (t.first ∷ []) m.others;
      ranges = (w.ranges, m.ranges);
      spelled = t.parts ∙ ap (λ (y : List (List ℕ)). y ++ t.rest) w.spelled ∙ ap (λ (y : List (List ℕ)). flood_part_words t.first ++ y) m.spelled;
    }

parts_from_at : (before parts : List FloodPart) (ws : List (List ℕ)) (others : List FloodPart) → parts ≡ before ++ others → AllByRecursion IsFloodPart others → ws ≡ all_flood_part_words others → PartsStep before parts ws
parts_from_at before parts ws [] e r spelled = inl (record { value = e ∙ append-nil before; words = spelled })
parts_from_at before parts ws (p ∷ others) e r spelled = inr (record {
  first = p;
  front = flood_part_words p;
  rest = all_flood_part_words others;
  is = record { ranges = r.0; spelled = refl };
  others = record { others = others; parts_are = e ∙ sym (append_assoc before (p ∷ []) others); ranges = r.1; spelled = refl };
  parts = spelled;
})

parts_from : (before parts : List FloodPart) (ws : List (List ℕ)) → MoreParts before parts ws → PartsStep before parts ws
parts_from before parts ws m = parts_from_at before parts ws m.others m.parts_are m.ranges m.spelled

parts_local_at : (f g : List FloodPart → List (List ℕ) → Parsed (List FloodPart)) (before : List FloodPart) (ws : List (List ℕ)) (r : Parsed FloodPart) → ((t : List FloodPart) (us : List (List ℕ)) → length us < length ws → f t us ≡ g t us) → flood_part_at ws ≡ r → (r >>= λ next. f (before ++ next.0 ∷ []) next.1) ≡ (r >>= λ next. g (before ++ next.0 ∷ []) next.1)
parts_local_at f g before ws (Err n) same e = refl
parts_local_at f g before ws (Ok x) same e = same (before ++ x.0 ∷ []) x.1 (part_shorter ws x.0 x.1 e)

parts_local : IsLocal parts_step
parts_local f g before [] same = refl
parts_local f g before (w ∷ ws) same = parts_local_at f g before (w ∷ ws) (flood_part_at (w ∷ ws)) same refl

pub parts_again : (before : List FloodPart) (ws : List (List ℕ)) → parts_at before ws ≡ parts_step parts_at before ws
parts_again before ws = until_step parts_step parts_local before ws

more_takes : (before parts : List FloodPart) → ¬ (Then PartWords (λ p. MoreParts (before ++ p ∷ [])) parts [])
more_takes before parts t = absurd (omega (arith, ap length t.parts, length-append t.front t.rest, part_long t.first t.front t.is))

parts_lawful : (k : ℕ) (before : List FloodPart) → Lawful k Nothing (MoreParts before) (parts_at before)
parts_lawful zero before = none_lawful Nothing (MoreParts before) (parts_at before) before [] (record { others = []; parts_are = sym (append-nil before); ranges = tt; spelled = refl })
parts_lawful (suc k) before =
    rewritten (suc k) Nothing (MoreParts before) (λ ws. parts_step parts_at before ws) (parts_at before)
    (restated (suc k) Nothing (PartsStep before) (MoreParts before) (λ ws. parts_step parts_at before ws)
    (or_end_lawful (suc k) before (Then PartWords (λ p. MoreParts (before ++ p ∷ []))) _
    (then_lawful k Nothing PartWords (λ p. MoreParts (before ++ p ∷ [])) flood_part_at (λ p ws. parts_at (before ++ p ∷ []) ws) part_lawful (λ p. parts_lawful k (before ++ p ∷ [])) part_takes)
    (more_takes before))
    (parts_to before) (parts_from before))
    (parts_again before)

-- the words of one or more parts
pub record PartsWords (parts : List FloodPart) (ws : List (List ℕ)) : Type 0 where
  pub ranges : AreFloodParts parts
  pub spelled : ws ≡ all_flood_part_words parts

parts_all : (ps : List FloodPart) → All IsFloodPart ps → AllByRecursion IsFloodPart ps
parts_all [] h = tt
parts_all (p ∷ ps) h = (All-head IsFloodPart p ps h, parts_all ps (All-tail IsFloodPart p ps h))

flood_to : (parts : List FloodPart) (ws : List (List ℕ)) → Then PartWords (λ p. MoreParts (p ∷ [])) parts ws → PartsWords parts ws
flood_to parts ws t =
    let w : PartWords t.first t.front = t.is in
    let m = t.others in
    let some : 1 ≤ length parts = omega (arith, ap length m.parts_are) in
    record {
      ranges = record { some = some; each = subst (λ (y : List FloodPart). All IsFloodPart y) (sym m.parts_are) (All-from_recursion IsFloodPart (t.first ∷ m.others) (w.ranges, m.ranges)) };
      spelled = t.parts ∙ ap (λ (y : List (List ℕ)). y ++ t.rest) w.spelled ∙ ap (λ (y : List (List ℕ)). flood_part_words t.first ++ y) m.spelled ∙ ap all_flood_part_words (sym m.parts_are);
    }

flood_from : (parts : List FloodPart) (ws : List (List ℕ)) → PartsWords parts ws → Then PartWords (λ p. MoreParts (p ∷ [])) parts ws
flood_from [] ws a = absurd (let some = a.ranges.some in omega arith)
flood_from (p ∷ ps) ws a = record {
  first = p;
  front = flood_part_words p;
  rest = all_flood_part_words ps;
  is = record { ranges = All-head IsFloodPart p ps a.ranges.each; spelled = refl };
  others = record { others = ps; parts_are = refl; ranges = parts_all ps (All-tail IsFloodPart p ps a.ranges.each); spelled = refl };
  parts = a.spelled;
}

pub flood_parts_lawful : (k : ℕ) → Lawful k Nothing PartsWords flood_parts_at
unfolding flood_parts_at
flood_parts_lawful k = restated k Nothing (Then PartWords (λ p. MoreParts (p ∷ []))) PartsWords _
    (then_all Nothing PartWords (λ p. MoreParts (p ∷ [])) flood_part_at (λ p ws. parts_at (p ∷ []) ws) part_lawful (λ p k. parts_lawful k (p ∷ [])) part_takes k) flood_to flood_from

-- ---- the steps of the loops that read them

-- no word is left
pub answers_over : (before : List Locator) (ws : List (List ℕ)) (total : Parsed Answers) → is_over ws ≡ true → locators_at before ws ≡ total → total ≡ Ok ((before, None), ws)
answers_over before [] total over e = sym e ∙ locators_again before []
answers_over before (w ∷ ws) total over e = absurd (let z = over in cc)

-- an objective is next
pub answers_objective : (before : List Locator) (ws : List (List ℕ)) (total : Parsed Answers) → is_next (codes "obj") ws ≡ true → locators_at before ws ≡ total → total ≡ (final_objective_at ws >>= λ objective. Ok ((before, Some objective.0), objective.1))
answers_objective before [] total next e = absurd (let z = next in cc)
answers_objective before (w ∷ ws) total next e = sym e ∙ locators_again before (w ∷ ws) ∙ chosen_yes (begins_objective w) _ _ next

-- a locator is next
pub answers_locator : (before : List Locator) (ws : List (List ℕ)) (total : Parsed Answers) → is_over ws ≡ false → is_next (codes "obj") ws ≡ false → locators_at before ws ≡ total → total ≡ (locator_at ws >>= λ next. locators_at (before ++ next.0 ∷ []) next.1)
answers_locator before [] total over next e = absurd (let z = over in cc)
answers_locator before (w ∷ ws) total over next e = sym e ∙ locators_again before (w ∷ ws) ∙ chosen_no (begins_objective w) _ _ next

pub parts_over : (before : List FloodPart) (ws : List (List ℕ)) (total : Parsed (List FloodPart)) → is_over ws ≡ true → parts_at before ws ≡ total → total ≡ Ok (before, ws)
parts_over before [] total over e = sym e ∙ parts_again before []
parts_over before (w ∷ ws) total over e = absurd (let z = over in cc)

-- a part is next
pub parts_next : (before : List FloodPart) (ws : List (List ℕ)) (total : Parsed (List FloodPart)) → is_over ws ≡ false → parts_at before ws ≡ total → total ≡ (flood_part_at ws >>= λ next. parts_at (before ++ next.0 ∷ []) next.1)
parts_next before [] total over e = absurd (let z = over in cc)
parts_next before (w ∷ ws) total over e = sym e ∙ parts_again before (w ∷ ws)
