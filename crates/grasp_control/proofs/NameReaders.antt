-- The words that say what follows in a request: each is read where it is one, and nowhere else.
use Rattle.std.proofs.Common.{◌≡◌, ℕ, ◌<◌, ◌≤◌, ◌^◌, Bool, true, false, cond, leb, List, Option, Some, None, refl, sym, ap, subst, ◌∙◌, arith}
use Rattle.std.specs.Prelude.{codes, decimal}
use Rattle.std.proofs.lemmas.Bool.{le-leb, leb-true}
use Rattle.grasp_text.specs.Readers.{IsWordReader}
use Rattle.grasp_text.specs.Reading.{number_of, then_some}
use Rattle.grasp_text.proofs.Leaves.{one_of, no_more}
use Rattle.grasp_text.proofs.NumberWords.{some, some_is}
use Rattle.grasp_text.proofs.Readers.{numbers_read}
use Rattle.grasp_config.specs.Levels.{level_word, level_of}
use Rattle.grasp_config.specs.declared.level.LogLevel.{LogLevel}
use Rattle.grasp_config.specs.declared.level.LogLevel.TheVariants.{Quiet, Events, Traffic}
use Rattle.grasp_script.specs.Grammar.{call_of}
use Rattle.grasp_script.specs.declared.names.CallName.{CallName}
use Rattle.grasp_script.specs.declared.names.CallName.TheVariants as call
use Rattle.grasp_script.proofs.WordReaders.{Any, call_word, read_call_name}
use Rattle.grasp_control.specs.Grammar.{called_name, request_of, await_of, at_least, length_of}
use Rattle.grasp_control.specs.declared.names.AwaitName.{AwaitName}
use Rattle.grasp_control.specs.declared.names.AwaitName.TheVariants as awaited
use Rattle.grasp_control.specs.declared.names.RequestName.{RequestName}
use Rattle.grasp_control.specs.declared.names.RequestName.TheVariants as asked

-- ---- the first word of a request

abbrev pub request_word : RequestName → List ℕ
request_word (asked.Call name) = call_word name
request_word asked.Await = codes "await"
request_word asked.State = codes "state"
request_word asked.Wants = codes "wants"
request_word asked.Reads = codes "reads"
request_word asked.Events = codes "events"
request_word asked.Counters = codes "counters"
request_word asked.Version = codes "version"
request_word asked.Want = codes "want"
request_word asked.Unwant = codes "unwant"
request_word asked.Log = codes "log"
request_word asked.Stop = codes "stop"

pub request_again : (n : RequestName) → request_of (request_word n) ≡ Some n
unfolding request_of call_of
request_again asked.Await = refl
request_again (asked.Call call.Asa) = refl
request_again (asked.Call _) = refl
request_again _ = refl

-- a call's first word
called_only : (w : List ℕ) (n : RequestName) (o : Option CallName) → call_of w ≡ o → then_some o called_name ≡ Some n → w ≡ request_word n
called_only w n None r e = absurd cc
called_only w n (Some c) r e = (read_call_name.only w c r).0 ∙ ap request_word (some_is (asked.Call c) n e)

request_only : (w : List ℕ) (n : RequestName) → request_of w ≡ Some n → (w ≡ request_word n) × Any n
unfolding request_of
request_only w n e = (
  one_of request_word n asked.Await w (codes "await") _ refl (one_of request_word n asked.State w (codes "state") _ refl
      (one_of request_word n asked.Wants w (codes "wants") _ refl (one_of request_word n asked.Reads w (codes "reads") _ refl
      (one_of request_word n asked.Events w (codes "events") _ refl (one_of request_word n asked.Counters w (codes "counters") _ refl
      (one_of request_word n asked.Version w (codes "version") _ refl (one_of request_word n asked.Want w (codes "want") _ refl
      (one_of request_word n asked.Unwant w (codes "unwant") _ refl (one_of request_word n asked.Log w (codes "log") _ refl
      (one_of request_word n asked.Stop w (codes "stop") _ refl (called_only w n (call_of w) refl))))))))))) e,
  tt,
)

pub read_request_name : IsWordReader Any request_word request_of
read_request_name = record { found = λ n u. request_again n; only = request_only }

-- ---- the first word of a call behind `await`

abbrev pub await_word : AwaitName → List ℕ
await_word awaited.Discover = codes "discover"
await_word awaited.Listen = codes "listen"
await_word awaited.Poll = codes "poll"

pub await_again : (n : AwaitName) → await_of (await_word n) ≡ Some n
unfolding await_of
await_again awaited.Discover = refl
await_again _ = refl

await_only : (w : List ℕ) (n : AwaitName) → await_of w ≡ Some n → (w ≡ await_word n) × Any n
unfolding await_of
await_only w n e = (
  one_of await_word n awaited.Discover w (codes "discover") _ refl (one_of await_word n awaited.Listen w (codes "listen") _ refl
      (one_of await_word n awaited.Poll w (codes "poll") None refl (no_more n _))) e,
  tt,
)

pub read_await_name : IsWordReader Any await_word await_of
read_await_name = record { found = λ n u. await_again n; only = await_only }

-- ---- how much is logged

level_again : (n : LogLevel) → level_of (level_word n) ≡ Some n
unfolding level_of
level_again Quiet = refl
level_again _ = refl

level_only : (w : List ℕ) (n : LogLevel) → level_of w ≡ Some n → (w ≡ level_word n) × Any n
unfolding level_of
level_only w n e = (
  one_of level_word n Quiet w (codes "quiet") _ refl (one_of level_word n Events w (codes "events") _ refl
      (one_of level_word n Traffic w (codes "traffic") None refl (no_more n _))) e,
  tt,
)

pub read_level : IsWordReader Any level_word level_of
read_level = record { found = λ n u. level_again n; only = level_only }

-- ---- lengths of prefixes

-- from this length to 128
abbrev pub IsLength : ℕ → ℕ → Type 0
IsLength least n = (least ≤ n) × (n ≤ 128)

within128 : IsWordReader (λ n. n ≤ 128) decimal (number_of 128)
within128 = numbers_read 128 (omega arith)

length_by : (least n k : ℕ) (w : List ℕ) (b : Bool) → w ≡ decimal n → n ≤ 128 → leb least n ≡ b → cond b (some n) None ≡ Some k → (w ≡ decimal k) × IsLength least k
length_by least n k w false d most t e = absurd cc
length_by least n k w true d most t e = subst (λ m. (w ≡ decimal m) × IsLength least m) (some_is n k e) (d, (leb-true least n t, most))

length_at : (least k : ℕ) (w : List ℕ) (o : Option ℕ) → number_of 128 w ≡ o → then_some o (at_least least) ≡ Some k → (w ≡ decimal k) × IsLength least k
length_at least k w None r e = absurd cc
length_at least k w (Some n) r e = let h = within128.only w n r in length_by least n k w (leb least n) h.0 h.1 refl e

length_only : (least : ℕ) (w : List ℕ) (k : ℕ) → length_of least w ≡ Some k → (w ≡ decimal k) × IsLength least k
unfolding length_of
length_only least w k e = length_at least k w (number_of 128 w) refl e

length_found : (least k : ℕ) → IsLength least k → length_of least (decimal k) ≡ Some k
unfolding length_of
length_found least k is = ap (λ o. then_some o (at_least least)) (within128.found k is.1) ∙ ap (λ b. cond b (some k) None) (le-leb least k is.0)

pub read_length : (least : ℕ) → IsWordReader (IsLength least) decimal (length_of least)
read_length least = record { found = length_found least; only = length_only least }
