-- How many bytes wait on the open streams of a node.
use Rattle.std.proofs.Common.{◌≡◌, ◌≤◌, ◌<◌, ◌+◌, ◌-◌, ◌*◌, ◌^◌, ℕ, zero, suc, List, [], ◌∷◌, ◌++◌, length, append-nil, Option, Some, None, refl, sym, ap, ◌∙◌, subst, arith, All}
use Rattle.std.specs.List.{AllZip, fold, sum}
use Rattle.std.proofs.Math.Nat.{min-le_left}
use Rattle.std.proofs.lemmas.List.{append_cancel_left}
use Rattle.std.proofs.lemmas.List.Elements.{All-head, All-tail}
use Rattle.grasp_types.specs.declared.message.Message.{Message}
use Rattle.grasp_wire.proofs.Joins.{joined_first}
use Rattle.grasp_wire.specs.Cutter.{Past, HasRest}
use Rattle.grasp_wire.specs.Wire.{AreWireForms}
use Rattle.grasp_model_node.specs.Divided.{Waits, WaitsOpen, KeptIsBounded}
use Rattle.grasp_model_node.specs.Waiting.{HasWaiting}
use Rattle.grasp_model_node.specs.Streams.{StreamRecord}

-- what stands behind the messages that were given is the rest that waits
short_rest : (limit : ℕ) (past : Past) (count : ℕ) → Waits limit past → HasRest limit past count → count < limit
short_rest limit past count w h =
    let s = w.divides.splits in
    let j = joined_first past.given past.given h.front s.front h.rest w.rest limit h.forms s.forms (sym h.parts ∙ s.parts) s.no_more in
    let none : [] ≡ j.more = append_cancel_left past.given [] j.more (append-nil past.given ∙ j.all) in
    let empty : j.middle ≡ [] = subst (λ (ms : List Message). AreWireForms ms j.middle limit) (sym none) j.forms in
    let same : h.rest ≡ w.rest = j.parts ∙ ap (λ (x : List ℕ). x ++ w.rest) empty in
    let short : length w.rest < limit = w.divides.kind_is.short in
    omega (arith, short, h.count_is, ap (λ (x : List ℕ). length x) same)

count_below : (limit : ℕ) (x : StreamRecord) (count : ℕ) → WaitsOpen limit x → HasWaiting limit x.past count → count ≤ limit - 1
count_below limit x count w h = by_past x.past refl h where
  by_past : (o : Option Past) → x.past ≡ o → HasWaiting limit o count → count ≤ limit - 1
  by_past None e g = omega (arith, g)
  by_past (Some past) e g = let l = short_rest limit past count (w.waits past e) g in omega (arith, l)

-- so many records have at most so many times as many
sum_below : (limit places : ℕ) (xs : List StreamRecord) (counts : List ℕ) (n : ℕ) → length xs ≤ places → All (WaitsOpen limit) xs → AllZip (λ x waiting. HasWaiting limit x.past waiting) xs counts
    → fold (λ (a : ℕ) (k : ℕ). a + k) n counts ≤ n + places * (limit - 1)
sum_below limit places [] [] n l a z = omega arith
sum_below limit places [] (c ∷ cs) n l a z = absurd z
sum_below limit places (x ∷ xs) [] n l a z = absurd z
sum_below limit zero (x ∷ xs) (c ∷ cs) n l a z = absurd (omega (arith, l))
sum_below limit (suc places) (x ∷ xs) (c ∷ cs) n l a z =
    let low = count_below limit x c (All-head (WaitsOpen limit) x xs a) z.0 in
    let rest = sum_below limit places xs cs (n + c) (omega (arith, l)) (All-tail (WaitsOpen limit) x xs a) z.1 in
    omega (arith, low, rest)

pub kept_is_bounded : KeptIsBounded
kept_is_bounded n count k f b =
    let all : sum b.counts ≤ 0 + 64 * (n.plan.limit - 1) = sum_below n.plan.limit 64 n.streams.records b.counts 0 k.few_records f.each b.each in
    let least = min-le_left (sum b.counts) (2 ^ 64 - 1) in
    omega (arith, b.count_is, least, all)
