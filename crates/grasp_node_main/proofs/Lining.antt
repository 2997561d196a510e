-- Lines behind lines, and words behind words.
use Rattle.std.proofs.Common.{◌≡◌, refl, ap, ◌∙◌, sym, ℕ, zero, suc, ◌+◌, arith, List, [], ◌∷◌, ◌++◌, take, slice_get, Option, Some, None, append_assoc}
use Rattle.std.proofs.lemmas.List.{append-nil}
use Rattle.std.specs.Prelude.{codes}
use Rattle.grasp_pool.specs.Holdings.{Holding}
use Rattle.grasp_types.specs.Prefix.{AddressBlock}
use Rattle.grasp_types.specs.declared.flood.FloodRead.{FloodRead}
use Rattle.grasp_text.proofs.Pushed.{some_pushed}
use Rattle.grasp_text.specs.Line.{prefix_word}
use Rattle.grasp_text.specs.Words.{spaced}
use Rattle.grasp_agent.specs.declared.want.WantEnd.{WantEnd}
use Rattle.grasp_node_main.specs.Lines.{prefix_words, pool_words, flood_words, all_flood_words, line_text, want_words, end_at, wants_text, worker_text, crew_text}
use Rattle.grasp_node_main.specs.Runs.{workers_of}
use Rattle.grasp_node_main.specs.declared.seated_agent.SeatedAgent.{SeatedAgent}
use Rattle.grasp_node_main.specs.declared.want_plan.WantPlan.{WantPlan}

-- a line
pub line_pushed : (old named worded new name : List ℕ) (words : List (List ℕ)) → named ≡ old ++ name → worded ≡ named ++ spaced words → new ≡ worded ++ 10 ∷ [] → new ≡ old ++ line_text name words
line_pushed old named worded new name words p q r =
    r ∙ ap (λ x. x ++ 10 ∷ []) (q ∙ ap (λ x. x ++ spaced words) p ∙ append_assoc old name (spaced words)) ∙ append_assoc old (name ++ spaced words) (10 ∷ [])

-- the front of a list of which this is the next
pub front_more : {A : Type 0} (xs : List A) (i : ℕ) (x : A) → slice_get xs i ≡ Some x → take (suc i) xs ≡ take i xs ++ x ∷ []
front_more [] i x at = absurd (cc)
front_more (y ∷ xs) zero x at = let same : y ≡ x = cc in ap (λ z. z ∷ []) same
front_more (y ∷ xs) (suc i) x at = ap (λ l. y ∷ l) (front_more xs i x at)

-- the front of a list up to a place where nothing stands is the whole list
pub none_more : {A : Type 0} (xs : List A) (i : ℕ) → slice_get xs i ≡ None → take i xs ≡ xs
none_more [] zero none = refl
none_more [] (suc i) none = refl
none_more (y ∷ xs) zero none = absurd (cc)
none_more (y ∷ xs) (suc i) none = ap (λ l. y ∷ l) (none_more xs i none)

prefix_words_more : (ps qs : List AddressBlock) → prefix_words (ps ++ qs) ≡ prefix_words ps ++ prefix_words qs
prefix_words_more [] qs = refl
prefix_words_more (p ∷ ps) qs = ap (λ l. prefix_word p ∷ l) (prefix_words_more ps qs)

-- one more prefix
pub prefix_pushed : (ps : List AddressBlock) (i : ℕ) (p : AddressBlock) (old middle new : List ℕ) → slice_get ps i ≡ Some p → middle ≡ old ++ spaced (prefix_words (take i ps)) → new ≡ middle ++ spaced (prefix_word p ∷ []) → new ≡ old ++ spaced (prefix_words (take (i + 1) ps))
prefix_pushed ps i p old middle new at m n =
    let next : i + 1 ≡ suc i = omega arith in
    some_pushed old middle new (prefix_words (take i ps)) (prefix_word p ∷ []) m n
    ∙ ap (λ ws. old ++ spaced ws) (sym (ap (λ k. prefix_words (take k ps)) next ∙ ap prefix_words (front_more ps i p at) ∙ prefix_words_more (take i ps) (p ∷ [])))

flood_words_more : (fs gs : List FloodRead) → all_flood_words (fs ++ gs) ≡ all_flood_words fs ++ all_flood_words gs
flood_words_more [] gs = refl
flood_words_more (f ∷ fs) gs = ap (λ l. flood_words f ++ l) (flood_words_more fs gs) ∙ sym (append_assoc (flood_words f) (all_flood_words fs) (all_flood_words gs))

alone : (f : FloodRead) → all_flood_words (f ∷ []) ≡ flood_words f
alone f = append-nil (flood_words f)

-- one more flood
pub flood_pushed : (fs : List FloodRead) (i : ℕ) (f : FloodRead) (old middle new : List ℕ) → slice_get fs i ≡ Some f → middle ≡ old ++ spaced (all_flood_words (take i fs)) → new ≡ middle ++ spaced (flood_words f) → new ≡ old ++ spaced (all_flood_words (take (i + 1) fs))
flood_pushed fs i f old middle new at m n =
    let next : i + 1 ≡ suc i = omega arith in
    some_pushed old middle new (all_flood_words (take i fs)) (flood_words f) m n
    ∙ ap (λ ws. old ++ spaced ws) (sym (ap (λ k. all_flood_words (take k fs)) next ∙ ap all_flood_words (front_more fs i f at) ∙ flood_words_more (take i fs) (f ∷ []) ∙ ap (λ l. all_flood_words (take i fs) ++ l) (alone f)))

-- three lists
pub lists_pushed : (h : Holding) (old a b new : List ℕ) → a ≡ old ++ spaced (codes "held" ∷ prefix_words h.free) → b ≡ a ++ spaced (codes "reserved" ∷ prefix_words h.reserved) → new ≡ b ++ spaced (codes "doubt" ∷ prefix_words h.doubtful)
    → new ≡ old ++ spaced (pool_words h)
lists_pushed h old a b new p q r =
    some_pushed old a new (codes "held" ∷ prefix_words h.free) ((codes "reserved" ∷ prefix_words h.reserved) ++ (codes "doubt" ∷ prefix_words h.doubtful)) p
    (some_pushed a b new (codes "reserved" ∷ prefix_words h.reserved) (codes "doubt" ∷ prefix_words h.doubtful) q r)

-- a text behind a text
pub appended : (old middle new a b : List ℕ) → middle ≡ old ++ a → new ≡ middle ++ b → new ≡ old ++ (a ++ b)
appended old middle new a b p q = q ∙ ap (λ x. x ++ b) p ∙ append_assoc old a b

-- the lines of one more want
wants_more : (ws : List WantPlan) (es : List (Option WantEnd)) (i : ℕ) (w : WantPlan) → slice_get ws i ≡ Some w → wants_text (take (suc i) ws) es ≡ wants_text (take i ws) es ++ line_text (codes "want") (want_words w (end_at es i))
wants_more [] es i w at = absurd (cc)
wants_more (v ∷ ws) [] zero w at = let same : v ≡ w = cc in ap (λ u. line_text (codes "want") (want_words u None) ++ []) same ∙ append-nil (line_text (codes "want") (want_words w None))
wants_more (v ∷ ws) (e ∷ es) zero w at = let same : v ≡ w = cc in ap (λ u. line_text (codes "want") (want_words u e) ++ []) same ∙ append-nil (line_text (codes "want") (want_words w e))
wants_more (v ∷ ws) [] (suc i) w at =
    let first : List ℕ = line_text (codes "want") (want_words v None) in
    ap (λ l. first ++ l) (wants_more ws [] i w at) ∙ sym (append_assoc first (wants_text (take i ws) []) (line_text (codes "want") (want_words w None)))
wants_more (v ∷ ws) (e ∷ es) (suc i) w at =
    let first : List ℕ = line_text (codes "want") (want_words v e) in
    ap (λ l. first ++ l) (wants_more ws es i w at) ∙ sym (append_assoc first (wants_text (take i ws) es) (line_text (codes "want") (want_words w (end_at es i))))

pub want_pushed : (ws : List WantPlan) (es : List (Option WantEnd)) (i : ℕ) (w : WantPlan) (old middle new : List ℕ) → slice_get ws i ≡ Some w → middle ≡ old ++ wants_text (take i ws) es → new ≡ middle ++ line_text (codes "want") (want_words w (end_at es i)) → new ≡ old ++ wants_text (take (i + 1) ws) es
want_pushed ws es i w old middle new at m n =
    let next : i + 1 ≡ suc i = omega arith in
    appended old middle new (wants_text (take i ws) es) (line_text (codes "want") (want_words w (end_at es i))) m n
    ∙ ap (λ t. old ++ t) (sym (ap (λ k. wants_text (take k ws) es) next ∙ wants_more ws es i w at))

-- how the want at a place ended, where that is noted, and where it isn't
pub end_noted : (es : List (Option WantEnd)) (i : ℕ) (e : Option WantEnd) → slice_get es i ≡ Some e → end_at es i ≡ e
end_noted [] i e at = absurd (cc)
end_noted (x ∷ es) zero e at = cc
end_noted (x ∷ es) (suc i) e at = end_noted es i e at

pub end_missing : (es : List (Option WantEnd)) (i : ℕ) → slice_get es i ≡ None → end_at es i ≡ None
end_missing [] i at = refl
end_missing (x ∷ es) zero at = absurd (cc)
end_missing (x ∷ es) (suc i) at = end_missing es i at

-- the lines of one more agent
crew_more : (ss : List SeatedAgent) (i : ℕ) (s : SeatedAgent) → slice_get ss i ≡ Some s → crew_text (workers_of (take (suc i) ss)) ≡ crew_text (workers_of (take i ss)) ++ worker_text s.worker
crew_more [] i s at = absurd (cc)
crew_more (x ∷ ss) zero s at = let same : x ≡ s = cc in ap (λ (u : SeatedAgent). worker_text u.worker ++ []) same ∙ append-nil (worker_text s.worker)
crew_more (x ∷ ss) (suc i) s at = ap (λ l. worker_text x.worker ++ l) (crew_more ss i s at) ∙ sym (append_assoc (worker_text x.worker) (crew_text (workers_of (take i ss))) (worker_text s.worker))

pub seat_pushed : (ss : List SeatedAgent) (i : ℕ) (s : SeatedAgent) (old middle new : List ℕ) → slice_get ss i ≡ Some s → middle ≡ old ++ crew_text (workers_of (take i ss)) → new ≡ middle ++ worker_text s.worker → new ≡ old ++ crew_text (workers_of (take (i + 1) ss))
seat_pushed ss i s old middle new at m n =
    let next : i + 1 ≡ suc i = omega arith in
    appended old middle new (crew_text (workers_of (take i ss))) (worker_text s.worker) m n
    ∙ ap (λ t. old ++ t) (sym (ap (λ k. crew_text (workers_of (take k ss))) next ∙ crew_more ss i s at))
