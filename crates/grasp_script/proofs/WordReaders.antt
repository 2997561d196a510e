-- The words that are read: each is read where it is one, and nowhere else.
use Rattle.std.proofs.Common.{◌≡◌, ℕ, ◌-◌, ◌%◌, ◌^◌, ◌<◌, ◌≤◌, Bool, true, false, cond, ◌&&◌, leb, ltb, eqb, List, Option, Some, None, refl, sym, ap, subst, ◌∙◌, arith}
use Rattle.std.specs.Prelude.{IfSome, IfNone, codes, decimal}
use Rattle.std.proofs.lemmas.Bool.{le-leb, leb-true, lt-ltb, ltb-true, eq-eqb, eqb-true, and_parts, and_from}
use Rattle.std.proofs.lemmas.Nat.{pow_pos}
use Rattle.grasp_types.specs.Objective.{IsValue}
use Rattle.grasp_types.specs.Prefix.{AddressBlock, IsPrefix, size_of}
use Rattle.grasp_types.specs.declared.address.Address.{Address}
use Rattle.grasp_types.specs.declared.address.Locator.{Locator}
use Rattle.grasp_types.specs.declared.session.Handle.{Handle}
use Rattle.grasp_types.specs.declared.session.Kind.{Kind}
use Rattle.grasp_types.specs.declared.session.Kind.TheVariants.{Negotiation, Synchronization}
use Rattle.grasp_types.proofs.Multiples.{multiple_of_mod, mod_of_multiple}
use Rattle.grasp_text.specs.Line.{or_dash, value_word, prefix_word}
use Rattle.grasp_text.specs.Readers.{IsWordReader}
use Rattle.grasp_text.specs.Reading.{number_of, value_of, maybe_of, then_some, block_of}
use Rattle.grasp_text.proofs.Leaves.{one_of, no_more}
use Rattle.grasp_text.proofs.NumberWords.{some, some_is, is_none}
use Rattle.grasp_text.proofs.PartLaws.{IsMaybeValue, maybe_value_exact}
use Rattle.grasp_text.proofs.PrefixWords.{block_found, block_only}
use Rattle.grasp_text.proofs.Readers.{numbers_read, word_reader, maybe_from, maybe_to}
use Rattle.grasp_model_network.specs.Plans.{IsNode}
use Rattle.grasp_model_network.specs.Setting.{script_number, script_address, script_locator}
use Rattle.grasp_script.specs.Acts.{side_word}
use Rattle.grasp_script.specs.Calls.{node_word, peer_word, initiator_word, kind_word, dry_word, IsPeer, IsInitiator, IsNamed}
use Rattle.grasp_script.specs.Grammar.{number64, number8, flags_of, at_least_one, node_of, peer_of, initiator_of, named, handle_of, kind_of, dry_of, far_of, is_prefix, prefix_by, prefix_of, call_of, first_of}
use Rattle.grasp_text.specs.Grammar.{number32}
use Rattle.grasp_script.specs.declared.names.CallName.{CallName}
use Rattle.grasp_script.specs.declared.names.CallName.TheVariants as call
use Rattle.grasp_script.specs.declared.names.FirstWord.{FirstWord}
use Rattle.grasp_script.specs.declared.names.FirstWord.TheVariants as first

-- ---- numbers

pub read64 : IsWordReader (λ n. n ≤ 18446744073709551615) decimal number64
read64 = numbers_read 18446744073709551615 (omega arith)

pub read32 : IsWordReader (λ n. n ≤ 4294967295) decimal number32
read32 = numbers_read 4294967295 (omega arith)

pub read8 : IsWordReader (λ n. n ≤ 255) decimal number8
read8 = numbers_read 255 (omega arith)

pub read_flags : IsWordReader (λ n. n ≤ 15) decimal flags_of
read_flags = numbers_read 15 (omega arith)

pub small64 : {n : ℕ} → n ≤ 18446744073709551615 → n < 2 ^ 64
small64 le = omega arith

pub small32 : {n : ℕ} → n ≤ 4294967295 → n < 2 ^ 32
small32 le = omega arith

pub small8 : {n : ℕ} → n ≤ 255 → n < 2 ^ 8
small8 le = omega arith

pub within64 : {n : ℕ} → n < 2 ^ 64 → n ≤ 18446744073709551615
within64 lt = omega arith

pub within32 : {n : ℕ} → n < 2 ^ 32 → n ≤ 4294967295
within32 lt = omega arith

pub within8 : {n : ℕ} → n < 2 ^ 8 → n ≤ 255
within8 lt = omega arith

-- ---- values

pub read_maybe : IsWordReader (λ v. IfSome v IsValue) (or_dash value_word) (maybe_of value_of)
read_maybe = word_reader (λ v. IfSome v IsValue) (or_dash value_word) IsMaybeValue (maybe_of value_of) maybe_value_exact maybe_to maybe_from

-- ---- nodes

node_by : (nodes n k : ℕ) (w : List ℕ) (b : Bool) → w ≡ decimal n → n ≤ nodes → leb 1 n ≡ b → cond b (some n) None ≡ Some k → (w ≡ decimal k) × IsNode nodes k
node_by nodes n k w false d le t e = absurd (let z : None ≡ some k = e in cc)
node_by nodes n k w true d le t e =
    let same : n ≡ k = some_is n k e in
    subst (λ (m : ℕ). (w ≡ decimal m) × IsNode nodes m) same (d, record { least = leb-true 1 n t; most = le })

node_at : (nodes k : ℕ) (w : List ℕ) (o : Option ℕ) → nodes < 2 ^ 64 → number_of nodes w ≡ o → then_some o at_least_one ≡ Some k → (w ≡ decimal k) × IsNode nodes k
node_at nodes k w None lt r e = absurd (let z : None ≡ some k = e in cc)
node_at nodes k w (Some n) lt r e = let h = (numbers_read nodes lt).only w n r in node_by nodes n k w (leb 1 n) h.0 h.1 refl e

node_only : (nodes : ℕ) → nodes < 2 ^ 64 → (w : List ℕ) (k : ℕ) → node_of nodes w ≡ Some k → (w ≡ decimal k) × IsNode nodes k
unfolding node_of
node_only nodes lt w k e = node_at nodes k w (number_of nodes w) lt refl e

node_found : (nodes : ℕ) → nodes < 2 ^ 64 → (k : ℕ) → IsNode nodes k → node_of nodes (decimal k) ≡ Some k
unfolding node_of
node_found nodes lt k is = ap (λ (o : Option ℕ). then_some o at_least_one) ((numbers_read nodes lt).found k is.most) ∙ ap (λ (b : Bool). cond b (some k) None) (le-leb 1 k is.least)

pub read_node : (nodes : ℕ) → nodes ≤ 255 → IsWordReader (IsNode nodes) decimal (node_of nodes)
read_node nodes few = record { found = node_found nodes (omega arith); only = node_only nodes (omega arith) }

node_word_at : (k : ℕ) (b : Bool) → (ltb (script_number 0) (script_number k) && leb (script_number k) (script_number 255)) ≡ b → b ≡ true → script_number k - script_number 0 ≡ k → node_word (script_number k) ≡ decimal k
node_word_at k b t is same = ap (λ (c : Bool). cond c (decimal (script_number k - script_number 0)) (codes "-")) (t ∙ is) ∙ ap decimal same

-- the word for a node's address is its number
pub node_spelled : (k : ℕ) → 1 ≤ k → k ≤ 255 → node_word (script_number k) ≡ decimal k
node_spelled k least most = node_word_at k true (and_from (ltb (script_number 0) (script_number k)) (leb (script_number k) (script_number 255)) (lt-ltb (script_number 0) (script_number k) (omega arith)) (le-leb (script_number k) (script_number 255) (omega arith))) refl (omega arith)

pub peer_number : (nodes : ℕ) → nodes ≤ 255 → (l : Locator) (is : IsPeer nodes l) → peer_word l ≡ decimal is.node
peer_number nodes few l is = let most : is.node ≤ nodes = is.is_node.most in ap peer_word is.place ∙ node_spelled is.node is.is_node.least (omega arith)

pub initiator_number : (nodes : ℕ) → nodes ≤ 255 → (a : Address) (is : IsInitiator nodes a) → initiator_word a ≡ decimal is.node
initiator_number nodes few a is = let most : is.node ≤ nodes = is.is_node.most in ap initiator_word is.place ∙ node_spelled is.node is.is_node.least (omega arith)

peer_found : (nodes : ℕ) → nodes ≤ 255 → (l : Locator) → IsPeer nodes l → peer_of nodes (peer_word l) ≡ Some l
unfolding peer_of
peer_found nodes few l is =
    let most : is.node ≤ nodes = is.is_node.most in
    let word : peer_word l ≡ decimal is.node = ap peer_word is.place ∙ node_spelled is.node is.is_node.least (omega arith) in
    ap (λ (w : List ℕ). then_some (node_of nodes w) (λ k. some (script_locator k))) word
    ∙ ap (λ (o : Option ℕ). then_some o (λ k. some (script_locator k))) (node_found nodes (omega arith) is.node is.is_node)
    ∙ ap some (sym is.place)

peer_at : (nodes : ℕ) (w : List ℕ) (l : Locator) (o : Option ℕ) → nodes ≤ 255 → node_of nodes w ≡ o → then_some o (λ k. some (script_locator k)) ≡ Some l → (w ≡ peer_word l) × IsPeer nodes l
peer_at nodes w l None few r e = absurd (let z : None ≡ some l = e in cc)
peer_at nodes w l (Some k) few r e =
    let h = node_only nodes (omega arith) w k r in
    let most : k ≤ nodes = h.1.most in
    let same : script_locator k ≡ l = some_is (script_locator k) l e in
    (h.0 ∙ sym (node_spelled k h.1.least (omega arith)) ∙ ap peer_word same, record { node = k; is_node = h.1; place = sym same })

peer_only : (nodes : ℕ) → nodes ≤ 255 → (w : List ℕ) (l : Locator) → peer_of nodes w ≡ Some l → (w ≡ peer_word l) × IsPeer nodes l
unfolding peer_of
peer_only nodes few w l e = peer_at nodes w l (node_of nodes w) few refl e

pub read_peer : (nodes : ℕ) → nodes ≤ 255 → IsWordReader (IsPeer nodes) peer_word (peer_of nodes)
read_peer nodes few = record { found = peer_found nodes few; only = peer_only nodes few }

initiator_found : (nodes : ℕ) → nodes ≤ 255 → (a : Address) → IsInitiator nodes a → initiator_of nodes (initiator_word a) ≡ Some a
unfolding initiator_of
initiator_found nodes few a is =
    let most : is.node ≤ nodes = is.is_node.most in
    let word : initiator_word a ≡ decimal is.node = ap initiator_word is.place ∙ node_spelled is.node is.is_node.least (omega arith) in
    ap (λ (w : List ℕ). then_some (node_of nodes w) (λ k. some (script_address k))) word
    ∙ ap (λ (o : Option ℕ). then_some o (λ k. some (script_address k))) (node_found nodes (omega arith) is.node is.is_node)
    ∙ ap some (sym is.place)

initiator_at : (nodes : ℕ) (w : List ℕ) (a : Address) (o : Option ℕ) → nodes ≤ 255 → node_of nodes w ≡ o → then_some o (λ k. some (script_address k)) ≡ Some a → (w ≡ initiator_word a) × IsInitiator nodes a
initiator_at nodes w a None few r e = absurd (let z : None ≡ some a = e in cc)
initiator_at nodes w a (Some k) few r e =
    let h = node_only nodes (omega arith) w k r in
    let most : k ≤ nodes = h.1.most in
    let same : script_address k ≡ a = some_is (script_address k) a e in
    (h.0 ∙ sym (node_spelled k h.1.least (omega arith)) ∙ ap initiator_word same, record { node = k; is_node = h.1; place = sym same })

initiator_only : (nodes : ℕ) → nodes ≤ 255 → (w : List ℕ) (a : Address) → initiator_of nodes w ≡ Some a → (w ≡ initiator_word a) × IsInitiator nodes a
unfolding initiator_of
initiator_only nodes few w a e = initiator_at nodes w a (node_of nodes w) few refl e

pub read_initiator : (nodes : ℕ) → nodes ≤ 255 → IsWordReader (IsInitiator nodes) initiator_word (initiator_of nodes)
read_initiator nodes few = record { found = initiator_found nodes few; only = initiator_only nodes few }

-- ---- sessions

abbrev pub handle_word : Handle → List ℕ
handle_word h = decimal h.number

handle_found : (h : Handle) → IsNamed h → handle_of (handle_word h) ≡ Some h
unfolding handle_of
handle_found h is =
    let same : named h.number ≡ h = (λ i. record { place = sym is.place i; number = h.number }) in
    ap (λ (o : Option ℕ). then_some o (λ n. some (named n))) (read64.found h.number (within64 is.number)) ∙ ap some same

handle_at : (w : List ℕ) (h : Handle) (o : Option ℕ) → number64 w ≡ o → then_some o (λ n. some (named n)) ≡ Some h → (w ≡ handle_word h) × IsNamed h
handle_at w h None r e = absurd (let z : None ≡ some h = e in cc)
handle_at w h (Some n) r e =
    let d = read64.only w n r in
    subst (λ (x : Handle). (w ≡ handle_word x) × IsNamed x) (some_is (named n) h e) (d.0, record { place = refl; number = small64 d.1 })

handle_only : (w : List ℕ) (h : Handle) → handle_of w ≡ Some h → (w ≡ handle_word h) × IsNamed h
unfolding handle_of
handle_only w h e = handle_at w h (number64 w) refl e

pub read_handle : IsWordReader IsNamed handle_word handle_of
read_handle = record { found = handle_found; only = handle_only }

-- ---- prefixes

prefix_true : (b : ℕ × ℕ) → IsPrefix b.0 b.1 → is_prefix b ≡ true
prefix_true b h =
    let aligned : b.0 % size_of b.1 ≡ 0 = mod_of_multiple (size_of b.1) b.0 (pow_pos (128 - b.1)) h.aligned in
    and_from (leb 1 b.1 && leb b.1 128) (ltb b.0 (2 ^ 128) && eqb (b.0 % size_of b.1) 0)
    (and_from (leb 1 b.1) (leb b.1 128) (le-leb 1 b.1 h.least) (le-leb b.1 128 h.most))
    (and_from (ltb b.0 (2 ^ 128)) (eqb (b.0 % size_of b.1) 0) (lt-ltb b.0 (2 ^ 128) h.within) (eq-eqb (b.0 % size_of b.1) 0 aligned))

true_prefix : (b : ℕ × ℕ) → is_prefix b ≡ true → IsPrefix b.0 b.1
true_prefix b e =
    let p = and_parts (leb 1 b.1 && leb b.1 128) (ltb b.0 (2 ^ 128) && eqb (b.0 % size_of b.1) 0) e in
    let q = and_parts (leb 1 b.1) (leb b.1 128) p.0 in
    let r = and_parts (ltb b.0 (2 ^ 128)) (eqb (b.0 % size_of b.1) 0) p.1 in
    record { least = leb-true 1 b.1 q.0; most = leb-true b.1 128 q.1; within = ltb-true b.0 (2 ^ 128) r.0; aligned = multiple_of_mod (size_of b.1) b.0 (eqb-true (b.0 % size_of b.1) 0 r.1) }

prefix_found : (p : AddressBlock) → IsPrefix p.address p.length → prefix_of (prefix_word p) ≡ Some p
unfolding prefix_of
prefix_found p is = ap (λ (o : Option (ℕ × ℕ)). then_some o prefix_by) (block_found p (prefix_word p) is refl) ∙ ap (λ (t : Bool). cond t (some p) None) (prefix_true (p.address, p.length) is)

prefix_when : (w : List ℕ) (p : AddressBlock) (b : ℕ × ℕ) (t : Bool) → block_of w ≡ Some b → is_prefix b ≡ t → cond t (some (record { address = b.0; length = b.1 })) None ≡ Some p → (w ≡ prefix_word p) × IsPrefix p.address p.length
prefix_when w p b false r t e = absurd (let z : None ≡ some p = e in cc)
prefix_when w p b true r t e = subst (λ (q : AddressBlock). (w ≡ prefix_word q) × IsPrefix q.address q.length) (some_is (record { address = b.0; length = b.1 }) p e) (block_only w b r, true_prefix b t)

prefix_at : (w : List ℕ) (p : AddressBlock) (o : Option (ℕ × ℕ)) → block_of w ≡ o → then_some o prefix_by ≡ Some p → (w ≡ prefix_word p) × IsPrefix p.address p.length
prefix_at w p None r e = absurd (let z : None ≡ some p = e in cc)
prefix_at w p (Some b) r e = prefix_when w p b (is_prefix b) r refl e

prefix_only : (w : List ℕ) (p : AddressBlock) → prefix_of w ≡ Some p → (w ≡ prefix_word p) × IsPrefix p.address p.length
unfolding prefix_of
prefix_only w p e = prefix_at w p (block_of w) refl e

pub read_prefix : IsWordReader (λ p. IsPrefix p.address p.length) prefix_word prefix_of
read_prefix = record { found = prefix_found; only = prefix_only }

-- a prefix that has the word, where there is one, is what is read
pub prefix_told : (w : List ℕ) (o : Option AddressBlock) → IfSome o (λ p. w ≡ prefix_word p) → IfSome o (λ p. IsPrefix p.address p.length)
    → IfNone o ((p : AddressBlock) → IsPrefix p.address p.length → ¬ (w ≡ prefix_word p)) → o ≡ prefix_of w
prefix_told w (Some p) word valid none = sym (ap prefix_of word ∙ prefix_found p valid)
prefix_told w None word valid none = sym (is_none (prefix_of w) (λ p e. let h = prefix_only w p e in none p h.1 h.0))

-- ---- words that are spelled out

abbrev pub Any : {A : Type 0} → A → Type 0
Any a = Unit {0}

kind_found : (k : Kind) → Any k → kind_of (kind_word k) ≡ Some k
unfolding kind_of
kind_found Negotiation u = refl
kind_found Synchronization u = refl

kind_only : (w : List ℕ) (k : Kind) → kind_of w ≡ Some k → (w ≡ kind_word k) × Any k
unfolding kind_of
kind_only w k e = (one_of kind_word k Negotiation w (codes "neg") _ refl (one_of kind_word k Synchronization w (codes "syn") None refl (no_more k _)) e, tt)

pub read_kind : IsWordReader Any kind_word kind_of
read_kind = record { found = kind_found; only = kind_only }

dry_found : (d : Bool) → Any d → dry_of (dry_word d) ≡ Some d
unfolding dry_of
dry_found true u = refl
dry_found false u = refl

dry_only : (w : List ℕ) (d : Bool) → dry_of w ≡ Some d → (w ≡ dry_word d) × Any d
unfolding dry_of
dry_only w d e = (one_of dry_word d true w (codes "dry") _ refl (one_of dry_word d false w (codes "wet") None refl (no_more d _)) e, tt)

pub read_dry : IsWordReader Any dry_word dry_of
read_dry = record { found = dry_found; only = dry_only }

far_found : (f : Bool) → Any f → far_of (side_word f) ≡ Some f
unfolding far_of
far_found true u = refl
far_found false u = refl

far_only : (w : List ℕ) (f : Bool) → far_of w ≡ Some f → (w ≡ side_word f) × Any f
unfolding far_of
far_only w f e = (one_of side_word f true w (codes "far") _ refl (one_of side_word f false w (codes "near") None refl (no_more f _)) e, tt)

pub read_far : IsWordReader Any side_word far_of
read_far = record { found = far_found; only = far_only }

abbrev pub call_word : CallName → List ℕ
call_word call.Asa = codes "asa"
call_word call.Unasa = codes "unasa"
call_word call.Objective = codes "objective"
call_word call.Unobjective = codes "unobjective"
call_word call.Discover = codes "discover"
call_word call.Request = codes "request"
call_word call.Listen = codes "listen"
call_word call.Unlisten = codes "unlisten"
call_word call.Step = codes "step"
call_word call.Wait = codes "wait"
call_word call.Accept = codes "accept"
call_word call.Decline = codes "decline"
call_word call.Invalid = codes "invalid"
call_word call.Poll = codes "poll"
call_word call.Synchronize = codes "synchronize"
call_word call.Offer = codes "offer"
call_word call.Unoffer = codes "unoffer"
call_word call.Flood = codes "flood"
call_word call.Floods = codes "floods"
call_word call.Expire = codes "expire"

pub call_again : (n : CallName) → call_of (call_word n) ≡ Some n
unfolding call_of
call_again call.Asa = refl
call_again _ = refl

call_found : (n : CallName) → Any n → call_of (call_word n) ≡ Some n
call_found n u = call_again n

call_only : (w : List ℕ) (n : CallName) → call_of w ≡ Some n → (w ≡ call_word n) × Any n
unfolding call_of
call_only w n e = (
  one_of call_word n call.Asa w (codes "asa") _ refl (one_of call_word n call.Unasa w (codes "unasa") _ refl (one_of call_word n call.Objective w (codes "objective") _ refl (one_of call_word n call.Unobjective w (codes "unobjective") _ refl (one_of call_word n call.Discover w (codes "discover") _ refl (one_of call_word n call.Request w (codes "request") _ refl (one_of call_word n call.Listen w (codes "listen") _ refl (one_of call_word n call.Unlisten w (codes "unlisten") _ refl (one_of call_word n call.Step w (codes "step") _ refl (one_of call_word n call.Wait w (codes "wait") _ refl (one_of call_word n call.Accept w (codes "accept") _ refl (one_of call_word n call.Decline w (codes "decline") _ refl (one_of call_word n call.Invalid w (codes "invalid") _ refl (one_of call_word n call.Poll w (codes "poll") _ refl (one_of call_word n call.Synchronize w (codes "synchronize") _ refl (one_of call_word n call.Offer w (codes "offer") _ refl (one_of call_word n call.Unoffer w (codes "unoffer") _ refl (one_of call_word n call.Flood w (codes "flood") _ refl (one_of call_word n call.Floods w (codes "floods") _ refl (one_of call_word n call.Expire w (codes "expire") None refl (no_more n _)))))))))))))))))))) e,
  tt,
)

pub read_call_name : IsWordReader Any call_word call_of
read_call_name = record { found = call_found; only = call_only }

abbrev pub first_word : FirstWord → List ℕ
first_word first.Agent = codes "agent"
first_word first.Bytes = codes "bytes"
first_word first.Arrive = codes "arrive"
first_word first.Want = codes "want"
first_word first.Clock = codes "clock"
first_word first.Cut = codes "cut"
first_word first.Hold = codes "hold"
first_word first.Api = codes "api"
first_word first.Datagram = codes "datagram"
first_word first.Drain = codes "drain"
first_word first.State = codes "state"
first_word first.Return = codes "return"

pub first_again : (n : FirstWord) → first_of (first_word n) ≡ Some n
unfolding first_of
first_again first.Agent = refl
first_again _ = refl

first_found : (n : FirstWord) → Any n → first_of (first_word n) ≡ Some n
first_found n u = first_again n

first_only : (w : List ℕ) (n : FirstWord) → first_of w ≡ Some n → (w ≡ first_word n) × Any n
unfolding first_of
first_only w n e = (
  one_of first_word n first.Agent w (codes "agent") _ refl (one_of first_word n first.Bytes w (codes "bytes") _ refl (one_of first_word n first.Arrive w (codes "arrive") _ refl (one_of first_word n first.Want w (codes "want") _ refl (one_of first_word n first.Clock w (codes "clock") _ refl (one_of first_word n first.Cut w (codes "cut") _ refl (one_of first_word n first.Hold w (codes "hold") _ refl (one_of first_word n first.Api w (codes "api") _ refl (one_of first_word n first.Datagram w (codes "datagram") _ refl (one_of first_word n first.Drain w (codes "drain") _ refl (one_of first_word n first.State w (codes "state") _ refl (one_of first_word n first.Return w (codes "return") None refl (no_more n _)))))))))))) e,
  tt,
)

pub read_first : IsWordReader Any first_word first_of
read_first = record { found = first_found; only = first_only }
