-- How the program ends while nothing outside fails.
use Rattle.std.proofs.Common.{◌≡◌, ◌≢◌, ◌⊎◌, ◌<◌, inl, inr, ℕ, zero, suc, List, [], ◌∷◌, length, Option, None, Some, IfSome, refl, sym, subst, arith}
use Rattle.std.specs.Prelude.{⊤}
use Rattle.grasp_laws_audit.specs.Laws.{AuditsAgree}
use Rattle.grasp_replay_main.specs.Gen.{IsDrawEnd, IsGenEnd, Summarizes}
use Rattle.grasp_replay_main.specs.Laws.{EndsSo, IsBadWithin}
use Rattle.grasp_replay_main.specs.Made.{IsMade}
use Rattle.grasp_runner.specs.Written as ran
use Rattle.grasp_script_draws.specs.Generator.{script_of}
use Rattle.grasp_replay_main.specs.Limits.{input_limit}
use Rattle.grasp_replay_main.specs.Task.{HasTooManyBytes, HasTooManyLines, Makes, ReadsInput, SomeInput, Tells, input_of, IsTooLarge, IsDone, IsOkOrMemory}
use Rattle.grasp_replay_main.specs.declared.exit.Finding.{Finding}
use Rattle.grasp_replay_main.specs.declared.exit.Status.{Status}
use Rattle.grasp_replay_main.specs.declared.exit.Status.TheVariants as status
use Rattle.grasp_replay_main.specs.declared.task.Task.{Task}
use Rattle.grasp_replay_main.specs.declared.task.Task.TheVariants.{Show, Pack, Replay, Keep, Resolve, Record, Audit, Gen, Draw}
use Rattle.grasp_replay_main.proofs.Tasks.{no_bad_input, stops_too_far, whole_runs}

-- ---- inputs

-- an input that is the known one, where one is known
pub any_input : (known : Option (List ℕ)) → SomeInput known (λ i. ⊤)
any_input None = record { input = []; told = tt; holds = tt }
any_input (Some input) = record { input = input; told = refl; holds = tt }

-- there is an input with more bytes than so many
some_longer : (n : ℕ) → SomeInput None (λ i. n < length i)
some_longer zero = record { input = 0 ∷ []; told = tt; holds = omega arith }
some_longer (suc n) = let shorter = some_longer n in record { input = 0 ∷ shorter.input; told = tt; holds = omega (arith, shorter.holds) }

-- an input that is read is too large where it has too many bytes
large_by_bytes : (task : Task) (input : List ℕ) → ReadsInput task → input_limit < length input → IsTooLarge task input
large_by_bytes Show input reads more = inl more
large_by_bytes Pack input reads more = inl more
large_by_bytes Replay input reads more = inl more
large_by_bytes Keep input reads more = inl more
large_by_bytes Resolve input reads more = inl more
large_by_bytes Record input reads more = inl more
large_by_bytes Audit input reads more = inl more
large_by_bytes (Gen number) input reads more = absurd reads
large_by_bytes (Draw number) input reads more = absurd reads

-- what was left is too large where it has too many bytes
pub read_too_far : (task : Task) (left : Option (List ℕ)) → ReadsInput task → IfSome left (λ all. input_limit < length all)
    → SomeInput left (IsTooLarge task)
read_too_far task None reads more =
    let longer = some_longer input_limit in
    record { input = longer.input; told = tt; holds = large_by_bytes task longer.input reads longer.holds }
read_too_far task (Some all) reads more = record { input = all; told = refl; holds = large_by_bytes task all reads more }

-- what was left is what is known of the input of a task that reads it
pub known_left : (task : Task) (left : Option (List ℕ)) (P : List ℕ → Type 0) → ReadsInput task → SomeInput left P
    → SomeInput (input_of task left) P
known_left Show left P reads x = x
known_left Pack left P reads x = x
known_left Replay left P reads x = x
known_left Keep left P reads x = x
known_left Resolve left P reads x = x
known_left Record left P reads x = x
known_left Audit left P reads x = x
known_left (Gen number) left P reads x = absurd reads
known_left (Draw number) left P reads x = absurd reads

-- ---- what is made of a number

nothing_large : (task : Task) (input : List ℕ) → (HasTooManyBytes task input → ⊥) → (HasTooManyLines task input → ⊥)
    → ¬ IsTooLarge task input
nothing_large task input bytes lines (inl more) = bytes more
nothing_large task input bytes lines (inr more) = lines more

pub gen_made : (number limit : ℕ) (before after : Option (List ℕ)) (s : Status) → IsGenEnd s
    → (s ≡ status.Ok → ran.Writes (Summarizes number) before after) → IsDone s → SomeInput (Some []) (IsMade (Gen number) limit s)
gen_made number limit before after status.Ok may done ends =
    let w = done refl in
    let small = nothing_large (Gen number) [] (λ x. x) (λ x. x) in
    record { input = []; told = refl; holds = record { small = small; output = w.output; makes = w.made; whole = λ whole. refl } }
gen_made number limit before after (status.Finding f) may done ends = absurd may
gen_made number limit before after _ may done ends = absurd ends

pub draw_made : (number limit : ℕ) (before after : Option (List ℕ)) (s : Status) → IsDrawEnd s
    → (s ≡ status.Ok → ran.Writes (λ output. output ≡ script_of number) before after) → IsDone s → SomeInput (Some []) (IsMade (Draw number) limit s)
draw_made number limit before after status.Ok may done ends =
    let w = done refl in
    let small = nothing_large (Draw number) [] (λ x. x) (λ x. x) in
    record { input = []; told = refl; holds = record { small = small; output = w.output; makes = w.made; whole = λ whole. refl } }
draw_made number limit before after (status.Finding f) may done ends = absurd may
draw_made number limit before after _ may done ends = absurd ends

-- ---- how the program ends

-- R and K: the source and the sink failed; U: the sink is untouched; known: the input, where it is known
pub record Ends (R K U : Type 0) (task : Task) (limit : ℕ) (known left before after : Option (List ℕ)) (s : Status) : Type 0 where
  pub no_usage : s ≢ status.Usage
  pub read_fault : s ≡ status.ReadFault → R
  pub write_fault : s ≡ status.WriteFault → K
  pub too_large : s ≡ status.TooLarge → (U × SomeInput known (IsTooLarge task)) ⊎ Tells task limit left before after status.TooLarge
  pub bad_script : (line : ℕ) → s ≡ status.BadScript line → SomeInput known (IsBadWithin task line)
  pub made : IsDone s → SomeInput known (IsMade task limit s)

-- the run of an input within the limits was cut off, since it sends too much
record IsCutOff (task : Task) (limit : ℕ) (input : List ℕ) : Type 0 where
  pub small : ¬ IsTooLarge task input
  pub output : List ℕ
  pub makes : Makes task limit input output status.TooLarge

cut_as_read : (task : Task) (limit : ℕ) (left before after : Option (List ℕ)) → ReadsInput task
    → Tells task limit left before after status.TooLarge → SomeInput left (IsCutOff task limit)
cut_as_read task limit None before after reads t =
    record { input = t.input; told = tt; holds = record { small = t.small; output = t.output; makes = t.makes } }
cut_as_read task limit (Some all) before after reads t =
    record { input = t.input; told = t.told reads; holds = record { small = t.small; output = t.output; makes = t.makes } }

cut_off : (task : Task) (limit : ℕ) (left before after : Option (List ℕ)) → Tells task limit left before after status.TooLarge
    → SomeInput (input_of task left) (IsCutOff task limit)
cut_off Show limit left before after t = cut_as_read Show limit left before after tt t
cut_off Pack limit left before after t = cut_as_read Pack limit left before after tt t
cut_off Replay limit left before after t = cut_as_read Replay limit left before after tt t
cut_off Keep limit left before after t = cut_as_read Keep limit left before after tt t
cut_off Resolve limit left before after t = cut_as_read Resolve limit left before after tt t
cut_off Record limit left before after t = cut_as_read Record limit left before after tt t
cut_off Audit limit left before after t = cut_as_read Audit limit left before after tt t
cut_off (Gen number) limit left before after t =
    record { input = []; told = refl; holds = record { small = t.small; output = t.output; makes = t.makes } }
cut_off (Draw number) limit left before after t =
    record { input = []; told = refl; holds = record { small = t.small; output = t.output; makes = t.makes } }

-- ---- what becomes of the input

ends_large : (task : Task) (limit : ℕ) (input : List ℕ) → IsTooLarge task input → EndsSo task limit status.TooLarge input
ends_large task limit input large =
    record { large = λ l. inl refl; outcome = λ small. absurd (small large); whole = λ small whole. absurd (small large) }

ends_cut : AuditsAgree → (task : Task) (limit : ℕ) (input : List ℕ) → IsCutOff task limit input → EndsSo task limit status.TooLarge input
ends_cut agree task limit input cut = record {
  large = λ l. inl refl;
  outcome = λ small. (cut.output, cut.makes);
  whole = λ small whole. absurd (whole_runs agree task limit input (stops_too_far task limit input cut.output cut.makes) whole);
}

ends_bad : (task : Task) (limit line : ℕ) (input : List ℕ) → IsBadWithin task line input → EndsSo task limit (status.BadScript line) input
ends_bad task limit line input bad = record {
  large = λ l. absurd (bad.small l);
  outcome = λ small. bad.bad;
  whole = λ small whole. absurd (no_bad_input task limit input line bad.bad whole);
}

ends_starved : (task : Task) (limit : ℕ) (input : List ℕ) → EndsSo task limit status.OutOfMemory input
ends_starved task limit input = record { large = λ l. inr refl; outcome = λ small. tt; whole = λ small whole. tt }

ends_well : (task : Task) (limit : ℕ) (input : List ℕ) → IsMade task limit status.Ok input → EndsSo task limit status.Ok input
ends_well task limit input m = record { large = λ l. absurd (m.small l); outcome = λ small. (m.output, m.makes); whole = λ small whole. tt }

ends_found : (task : Task) (limit : ℕ) (f : Finding) (input : List ℕ)
    → IsMade task limit (status.Finding f) input → EndsSo task limit (status.Finding f) input
ends_found task limit f input m = record {
  large = λ l. absurd (m.small l);
  outcome = λ small. (m.output, m.makes);
  whole = λ small whole. subst IsOkOrMemory (sym (m.whole whole)) tt;
}

-- what is so of some input
some_so : (known : Option (List ℕ)) (P Q : List ℕ → Type 0) → ((i : List ℕ) → P i → Q i) → SomeInput known P → SomeInput known Q
some_so known P Q f x = record { input = x.input; told = x.told; holds = f x.input x.holds }

ends_too_large : AuditsAgree → (U : Type 0) (task : Task) (limit : ℕ) (left before after : Option (List ℕ))
    → (U × SomeInput (input_of task left) (IsTooLarge task)) ⊎ Tells task limit left before after status.TooLarge
    → SomeInput (input_of task left) (EndsSo task limit status.TooLarge)
ends_too_large agree U task limit left before after (inl large) =
    some_so (input_of task left) (IsTooLarge task) (EndsSo task limit status.TooLarge) (ends_large task limit) large.1
ends_too_large agree U task limit left before after (inr t) =
    let cut = cut_off task limit left before after t in
    some_so (input_of task left) (IsCutOff task limit) (EndsSo task limit status.TooLarge) (ends_cut agree task limit) cut

pub ends_so : AuditsAgree → (R K U : Type 0) (task : Task) (limit : ℕ) (left before after : Option (List ℕ)) (s : Status)
    → Ends R K U task limit (input_of task left) left before after s → ¬ R → ¬ K → SomeInput (input_of task left) (EndsSo task limit s)
ends_so agree R K U task limit left before after status.Ok h r k =
    some_so (input_of task left) (IsMade task limit status.Ok) (EndsSo task limit status.Ok) (ends_well task limit) (h.made tt)
ends_so agree R K U task limit left before after (status.Finding f) h r k =
    some_so (input_of task left) (IsMade task limit (status.Finding f)) (EndsSo task limit (status.Finding f)) (ends_found task limit f) (h.made tt)
ends_so agree R K U task limit left before after status.Usage h r k = absurd (h.no_usage refl)
ends_so agree R K U task limit left before after (status.BadScript line) h r k =
    let bad = h.bad_script line refl in
    some_so (input_of task left) (IsBadWithin task line) (EndsSo task limit (status.BadScript line)) (ends_bad task limit line) bad
ends_so agree R K U task limit left before after status.ReadFault h r k = absurd (r (h.read_fault refl))
ends_so agree R K U task limit left before after status.WriteFault h r k = absurd (k (h.write_fault refl))
ends_so agree R K U task limit left before after status.OutOfMemory h r k =
    let some = any_input (input_of task left) in
    some_so (input_of task left) (λ i. ⊤) (EndsSo task limit status.OutOfMemory) (λ i x. ends_starved task limit i) some
ends_so agree R K U task limit left before after status.TooLarge h r k = ends_too_large agree U task limit left before after (h.too_large refl)
