-- The words that say what follows: each is read where it is one, and nowhere else.
use Rattle.std.proofs.Common.{◌≡◌, ℕ, Bool, true, false, List, Some, None, refl, sym, ap, ◌∙◌}
use Rattle.std.specs.Prelude.{◌≢◌, codes}
use Rattle.grasp_types.specs.Refusal.{refusal_name}
use Rattle.grasp_types.specs.declared.refusal.ApiRefused.{ApiRefused}
use Rattle.grasp_types.specs.declared.refusal.ApiRefused.TheVariants as refusal
use Rattle.grasp_types.specs.declared.session.By.{By}
use Rattle.grasp_types.specs.declared.session.By.TheVariants.{Mine, Theirs}
use Rattle.grasp_text.specs.Readers.{IsWordReader}
use Rattle.grasp_text.proofs.Leaves.{one_of, no_more}
use Rattle.grasp_text.proofs.NumberWords.{some}
use Rattle.grasp_script.specs.Answers.{by_word}
use Rattle.grasp_script.proofs.WordReaders.{Any}
use Rattle.grasp_record.specs.Grammar.{by_of, taken_of, input_of, answer_of, outcome_of, want_of, return_of, output_of, refusal_of}
use Rattle.grasp_record.specs.declared.names.AnswerName.{AnswerName}
use Rattle.grasp_record.specs.declared.names.AnswerName.TheVariants as answered
use Rattle.grasp_record.specs.declared.names.InputName.{InputName}
use Rattle.grasp_record.specs.declared.names.InputName.TheVariants as took
use Rattle.grasp_record.specs.declared.names.OutcomeName.{OutcomeName}
use Rattle.grasp_record.specs.declared.names.OutcomeName.TheVariants as ended
use Rattle.grasp_record.specs.declared.names.OutputName.{OutputName}
use Rattle.grasp_record.specs.declared.names.OutputName.TheVariants as sent
use Rattle.grasp_record.specs.declared.names.ReturnName.{ReturnName}
use Rattle.grasp_record.specs.declared.names.ReturnName.TheVariants as returned
use Rattle.grasp_record.specs.declared.names.WantName.{WantName}
use Rattle.grasp_record.specs.declared.names.WantName.TheVariants as wanted

pub by_again : (n : By) → by_of (by_word n) ≡ Some n
unfolding by_of
by_again Mine = refl
by_again Theirs = refl

by_only : (w : List ℕ) (n : By) → by_of w ≡ Some n → (w ≡ by_word n) × Any n
unfolding by_of
by_only w n e = (one_of by_word n Mine w (codes "mine") _ refl (one_of by_word n Theirs w (codes "theirs") None refl (no_more n _)) e, tt)

pub read_by : IsWordReader Any by_word by_of
read_by = record { found = λ n u. by_again n; only = by_only }

abbrev pub taken_word : Bool → List ℕ
taken_word true = codes "taken"
taken_word false = codes "turned"

pub taken_again : (n : Bool) → taken_of (taken_word n) ≡ Some n
unfolding taken_of
taken_again true = refl
taken_again false = refl

taken_only : (w : List ℕ) (n : Bool) → taken_of w ≡ Some n → (w ≡ taken_word n) × Any n
unfolding taken_of
taken_only w n e = (one_of taken_word n true w (codes "taken") _ refl (one_of taken_word n false w (codes "turned") None refl (no_more n _)) e, tt)

pub read_taken : IsWordReader Any taken_word taken_of
read_taken = record { found = λ n u. taken_again n; only = taken_only }

abbrev pub input_word : InputName → List ℕ
input_word took.Api = codes "api"
input_word took.Agent = codes "agent"
input_word took.Want = codes "want"
input_word took.Return = codes "return"
input_word took.Datagram = codes "datagram"
input_word took.Opened = codes "opened"
input_word took.Bytes = codes "bytes"
input_word took.Closed = codes "closed"
input_word took.Drain = codes "drain"

pub input_again : (n : InputName) → input_of (input_word n) ≡ Some n
unfolding input_of
input_again took.Api = refl
input_again _ = refl

input_only : (w : List ℕ) (n : InputName) → input_of w ≡ Some n → (w ≡ input_word n) × Any n
unfolding input_of
input_only w n e = (one_of input_word n took.Api w (codes "api") _ refl (one_of input_word n took.Agent w (codes "agent") _ refl (one_of input_word n took.Want w (codes "want") _ refl (one_of input_word n took.Return w (codes "return") _ refl (one_of input_word n took.Datagram w (codes "datagram") _ refl (one_of input_word n took.Opened w (codes "opened") _ refl (one_of input_word n took.Bytes w (codes "bytes") _ refl (one_of input_word n took.Closed w (codes "closed") _ refl (one_of input_word n took.Drain w (codes "drain") None refl (no_more n _))))))))) e, tt)

pub read_input : IsWordReader Any input_word input_of
read_input = record { found = λ n u. input_again n; only = input_only }

abbrev pub answer_word : AnswerName → List ℕ
answer_word answered.Asa = codes "asa"
answer_word answered.Done = codes "done"
answer_word answered.Started = codes "started"
answer_word answered.Searching = codes "searching"
answer_word answered.Found = codes "found"
answer_word answered.Nothing = codes "nothing"
answer_word answered.NotYet = codes "notyet"
answer_word answered.Incoming = codes "incoming"
answer_word answered.Turn = codes "turn"
answer_word answered.Ended = codes "ended"
answer_word answered.Floods = codes "floods"
answer_word answered.Refused = codes "refused"

pub answer_again : (n : AnswerName) → answer_of (answer_word n) ≡ Some n
unfolding answer_of
answer_again answered.Asa = refl
answer_again _ = refl

answer_only : (w : List ℕ) (n : AnswerName) → answer_of w ≡ Some n → (w ≡ answer_word n) × Any n
unfolding answer_of
answer_only w n e = (one_of answer_word n answered.Asa w (codes "asa") _ refl (one_of answer_word n answered.Done w (codes "done") _ refl (one_of answer_word n answered.Started w (codes "started") _ refl (one_of answer_word n answered.Searching w (codes "searching") _ refl (one_of answer_word n answered.Found w (codes "found") _ refl (one_of answer_word n answered.Nothing w (codes "nothing") _ refl (one_of answer_word n answered.NotYet w (codes "notyet") _ refl (one_of answer_word n answered.Incoming w (codes "incoming") _ refl (one_of answer_word n answered.Turn w (codes "turn") _ refl (one_of answer_word n answered.Ended w (codes "ended") _ refl (one_of answer_word n answered.Floods w (codes "floods") _ refl (one_of answer_word n answered.Refused w (codes "refused") None refl (no_more n _)))))))))))) e, tt)

pub read_answer : IsWordReader Any answer_word answer_of
read_answer = record { found = λ n u. answer_again n; only = answer_only }

abbrev pub outcome_word : OutcomeName → List ℕ
outcome_word ended.Agreed = codes "agreed"
outcome_word ended.Declined = codes "declined"
outcome_word ended.Synchronized = codes "synchronized"
outcome_word ended.TimedOut = codes "timedout"
outcome_word ended.Broken = codes "broken"
outcome_word ended.Invalid = codes "invalid"

pub outcome_again : (n : OutcomeName) → outcome_of (outcome_word n) ≡ Some n
unfolding outcome_of
outcome_again ended.Agreed = refl
outcome_again _ = refl

outcome_only : (w : List ℕ) (n : OutcomeName) → outcome_of w ≡ Some n → (w ≡ outcome_word n) × Any n
unfolding outcome_of
outcome_only w n e = (one_of outcome_word n ended.Agreed w (codes "agreed") _ refl (one_of outcome_word n ended.Declined w (codes "declined") _ refl (one_of outcome_word n ended.Synchronized w (codes "synchronized") _ refl (one_of outcome_word n ended.TimedOut w (codes "timedout") _ refl (one_of outcome_word n ended.Broken w (codes "broken") _ refl (one_of outcome_word n ended.Invalid w (codes "invalid") None refl (no_more n _)))))) e, tt)

pub read_outcome : IsWordReader Any outcome_word outcome_of
read_outcome = record { found = λ n u. outcome_again n; only = outcome_only }

abbrev pub want_word : WantName → List ℕ
want_word wanted.Fine = codes "ok"
want_word wanted.Busy = codes "busy"
want_word wanted.Full = codes "full"

pub want_again : (n : WantName) → want_of (want_word n) ≡ Some n
unfolding want_of
want_again wanted.Fine = refl
want_again _ = refl

want_only : (w : List ℕ) (n : WantName) → want_of w ≡ Some n → (w ≡ want_word n) × Any n
unfolding want_of
want_only w n e = (one_of want_word n wanted.Fine w (codes "ok") _ refl (one_of want_word n wanted.Busy w (codes "busy") _ refl (one_of want_word n wanted.Full w (codes "full") None refl (no_more n _))) e, tt)

pub read_want : IsWordReader Any want_word want_of
read_want = record { found = λ n u. want_again n; only = want_only }

abbrev pub return_word : ReturnName → List ℕ
return_word returned.Fine = codes "ok"
return_word returned.Busy = codes "busy"
return_word returned.NotFree = codes "notfree"
return_word returned.Full = codes "full"

pub return_again : (n : ReturnName) → return_of (return_word n) ≡ Some n
unfolding return_of
return_again returned.Fine = refl
return_again _ = refl

return_only : (w : List ℕ) (n : ReturnName) → return_of w ≡ Some n → (w ≡ return_word n) × Any n
unfolding return_of
return_only w n e = (one_of return_word n returned.Fine w (codes "ok") _ refl (one_of return_word n returned.Busy w (codes "busy") _ refl (one_of return_word n returned.NotFree w (codes "notfree") _ refl (one_of return_word n returned.Full w (codes "full") None refl (no_more n _)))) e, tt)

pub read_return : IsWordReader Any return_word return_of
read_return = record { found = λ n u. return_again n; only = return_only }

abbrev pub output_word : OutputName → List ℕ
output_word sent.Datagram = codes "datagram"
output_word sent.Dial = codes "dial"
output_word sent.Send = codes "send"
output_word sent.Close = codes "close"

pub output_again : (n : OutputName) → output_of (output_word n) ≡ Some n
unfolding output_of
output_again sent.Datagram = refl
output_again _ = refl

output_only : (w : List ℕ) (n : OutputName) → output_of w ≡ Some n → (w ≡ output_word n) × Any n
unfolding output_of
output_only w n e = (one_of output_word n sent.Datagram w (codes "datagram") _ refl (one_of output_word n sent.Dial w (codes "dial") _ refl (one_of output_word n sent.Send w (codes "send") _ refl (one_of output_word n sent.Close w (codes "close") None refl (no_more n _)))) e, tt)

pub read_output : IsWordReader Any output_word output_of
read_output = record { found = λ n u. output_again n; only = output_only }

-- ---- refusals, but for that of want of memory

abbrev pub IsRefusal : ApiRefused → Type 0
IsRefusal r = r ≢ refusal.OutOfMemory

refusal_found : (r : ApiRefused) → IsRefusal r → refusal_of (refusal_name r) ≡ Some r
unfolding refusal_of
refusal_found refusal.OutOfMemory h = absurd (h refl)
refusal_found _ h = refl

refusal_named : (w : List ℕ) (r : ApiRefused) → refusal_of w ≡ Some r → w ≡ refusal_name r
unfolding refusal_of
refusal_named w r e = one_of refusal_name r refusal.NoAsa w (codes "NoAsa") _ refl (one_of refusal_name r refusal.AsasFull w (codes "AsasFull") _ refl (one_of refusal_name r refusal.DuplicateAsa w (codes "DuplicateAsa") _ refl (one_of refusal_name r refusal.NotBoth w (codes "NotBoth") _ refl (one_of refusal_name r refusal.ObjectivesFull w (codes "ObjectivesFull") _ refl (one_of refusal_name r refusal.ObjectiveTaken w (codes "ObjectiveTaken") _ refl (one_of refusal_name r refusal.NotYourObjective w (codes "NotYourObjective") _ refl (one_of refusal_name r refusal.NotNegotiable w (codes "NotNegotiable") _ refl (one_of refusal_name r refusal.NotSynchronizable w (codes "NotSynchronizable") _ refl (one_of refusal_name r refusal.NotDry w (codes "NotDry") _ refl (one_of refusal_name r refusal.BadLocator w (codes "BadLocator") _ refl (one_of refusal_name r refusal.NoSession w (codes "NoSession") _ refl (one_of refusal_name r refusal.NotYourTurn w (codes "NotYourTurn") _ refl (one_of refusal_name r refusal.LoopsSpent w (codes "LoopsSpent") _ refl (one_of refusal_name r refusal.WaitsSpent w (codes "WaitsSpent") _ refl (one_of refusal_name r refusal.NoFlood w (codes "NoFlood") _ refl (one_of refusal_name r refusal.SessionsFull w (codes "SessionsFull") _ refl (one_of refusal_name r refusal.StreamsFull w (codes "StreamsFull") _ refl (one_of refusal_name r refusal.TooLong w (codes "TooLong") _ refl (one_of refusal_name r refusal.OutboxFull w (codes "OutboxFull") None refl (no_more r _)))))))))))))))))))) e

-- the name of want of memory isn't read
no_memory : refusal_of (refusal_name refusal.OutOfMemory) ≡ None
unfolding refusal_of
no_memory = refl

refusal_only : (w : List ℕ) (r : ApiRefused) → refusal_of w ≡ Some r → (w ≡ refusal_name r) × IsRefusal r
refusal_only w r e =
    let named = refusal_named w r e in
    (named, λ same. let z : None ≡ some r = sym no_memory ∙ ap (λ (x : ApiRefused). refusal_of (refusal_name x)) (sym same) ∙ ap refusal_of (sym named) ∙ e in cc)

pub read_refusal : IsWordReader IsRefusal refusal_name refusal_of
read_refusal = record { found = refusal_found; only = refusal_only }
