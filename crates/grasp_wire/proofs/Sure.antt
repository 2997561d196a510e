-- What reading ends with, where it is known that it ends so.
use Rattle.std.proofs.Common.{◌≡◌, ℕ, zero, suc, ◌+◌, ◌-◌, ◌<◌, ◌≤◌, Bool, true, false, List, [], ◌++◌, length, take, drop, Option, Some, None, Result, Ok, Err, refl, sym, ap, subst, ◌∙◌, arith}
use Rattle.std.proofs.Math.Logic.{∥∥₁_elim, ∥∥₁_map}
use Rattle.std.proofs.Math.Nat.{ℕ_set}
use Rattle.std.specs.Coded.{le_prop}
use Rattle.std.proofs.lemmas.List.{take-append-drop, take_rest, take_all, length-take-le}
use Rattle.grasp_cbor.specs.Bytes.{AllBytes}
use Rattle.grasp_cbor.specs.DataItem.{DataItem}
use Rattle.grasp_cbor.specs.Encodes.{Encodes}
use Rattle.grasp_cbor.specs.Ending.{Ending, whole, partial, too_long, faulty, IsWhole, IsPartial, IsEnding}
use Rattle.grasp_cbor.specs.ItemReader.{EndsWith, reader_limit}
use Rattle.grasp_cbor.specs.declared.item_reader.ItemReader.{ItemReader}
use Rattle.grasp_cbor.specs.declared.walker.FaultName.{FaultName}
use Rattle.grasp_cbor.specs.declared.walker.FaultName.TheVariants as name
use Rattle.grasp_cbor.specs.declared.read.ItemFault.{ItemFault}
use Rattle.grasp_cbor.specs.declared.read.ItemFault.TheVariants.{Malformed, NotText, TooDeep, TooLong, OutOfMemory}
use Rattle.grasp_cbor.proofs.Cases.{some_ending, one_ending}
use Rattle.grasp_wire.specs.declared.fault.CutFault.{CutFault}
use Rattle.grasp_wire.specs.ReadOn.{IsOpen, IsAt, AnswersRead, AnswersRest, IsOpenAfter, IsReadTo, MeetsFault, place_in, taken_at, taken_more}
use Rattle.grasp_wire.proofs.ReadingOn.{whole_stays}

-- each name by a number
abbrev number_of : FaultName → ℕ
number_of name.Malformed = 0
number_of name.TooDeep = 1
number_of name.NotText = 2

abbrev name_at : ℕ → FaultName
name_at zero = name.Malformed
name_at (suc zero) = name.TooDeep
name_at (suc (suc n)) = name.NotText

name_back : (n : FaultName) → name_at (number_of n) ≡ n
name_back name.Malformed = refl
name_back _ = refl

-- each kind of ending by a number, and its place or its length
abbrev tag_of : Ending → ℕ
tag_of (whole item used) = 0
tag_of partial = 1
tag_of too_long = 2
tag_of (faulty n at) = 3 + number_of n

abbrev place_of : Ending → ℕ
place_of (whole item used) = used
place_of partial = 0
place_of too_long = 0
place_of (faulty n at) = at

same_name : (n m : FaultName) → 3 + number_of n ≡ 3 + number_of m → n ≡ m
same_name n m e = let q : number_of n ≡ number_of m = omega arith in sym (name_back n) ∙ ap name_at q ∙ name_back m

-- an ending that isn't whole is known by both
same_ending : (e f : Ending) → 0 < tag_of f → tag_of e ≡ tag_of f → place_of e ≡ place_of f → e ≡ f
same_ending (whole a n) f some t p = absurd (omega arith)
same_ending e (whole a n) some t p = absurd (omega arith)
same_ending partial partial some t p = refl
same_ending partial too_long some t p = absurd (omega arith)
same_ending partial (faulty n at) some t p = absurd (omega arith)
same_ending too_long partial some t p = absurd (omega arith)
same_ending too_long too_long some t p = refl
same_ending too_long (faulty n at) some t p = absurd (omega arith)
same_ending (faulty n at) partial some t p = absurd (omega arith)
same_ending (faulty n at) too_long some t p = absurd (omega arith)
same_ending (faulty n at) (faulty m k) some t p =
    let q = same_name n m t in
    λ i. faulty (q i) (p i)

-- reading that is known to have this ending, other than a whole item, has it
sure_ending : (s : List ℕ) (limit : ℕ) (f : Ending) → 0 < tag_of f → AllBytes s → ∥ IsEnding s limit f ∥₁ → IsEnding s limit f
sure_ending s limit f some bytes h =
    let e = some_ending s limit bytes in
    let t : tag_of e.0 ≡ tag_of f = ∥∥₁_elim h (ℕ_set _ _) (λ k. ap tag_of (one_ending s limit e.0 f bytes e.1 k)) in
    let p : place_of e.0 ≡ place_of f = ∥∥₁_elim h (ℕ_set _ _) (λ k. ap place_of (one_ending s limit e.0 f bytes e.1 k)) in
    subst (λ x. IsEnding s limit x) (same_ending e.0 f some t p) e.1

whole_in : (s : List ℕ) (limit : ℕ) (e : Ending) (n : ℕ) → IsEnding s limit e → tag_of e ≡ 0 → place_of e ≡ n → (item : DataItem) × IsWhole s limit item n
whole_in s limit (whole item used) n h t p = (item, subst (λ k. IsWhole s limit item k) p h)
whole_in s limit _ n h t p = absurd (omega arith)

-- reading that is known to end with an item of this length ends with one
sure_whole : (s : List ℕ) (limit n : ℕ) → AllBytes s → ∥ ((item : DataItem) × IsWhole s limit item n) ∥₁ → (item : DataItem) × IsWhole s limit item n
sure_whole s limit n bytes h =
    let e = some_ending s limit bytes in
    let t : tag_of e.0 ≡ 0 = ∥∥₁_elim h (ℕ_set _ _) (λ k. ap tag_of (one_ending s limit e.0 (whole k.0 n) bytes e.1 k.1)) in
    let p : place_of e.0 ≡ n = ∥∥₁_elim h (ℕ_set _ _) (λ k. ap place_of (one_ending s limit e.0 (whole k.0 n) bytes e.1 k.1)) in
    whole_in s limit e.0 n e.1 t p

sure_fault : (s : List ℕ) (limit : ℕ) (f : ItemFault) → AllBytes s → ∥ EndsWith s limit f ∥₁ → EndsWith s limit f
sure_fault s limit (Malformed at) bytes h = sure_ending s limit (faulty name.Malformed at) (omega arith) bytes h
sure_fault s limit (NotText at) bytes h = sure_ending s limit (faulty name.NotText at) (omega arith) bytes h
sure_fault s limit (TooDeep at) bytes h = sure_ending s limit (faulty name.TooDeep at) (omega arith) bytes h
sure_fault s limit TooLong bytes h = sure_ending s limit too_long (omega arith) bytes h
sure_fault s limit OutOfMemory bytes h = ∥∥₁_elim h (hlevel) (λ x. x)

-- reading more bytes that is known to end with this answer ends with it
sure_read : (s t : List ℕ) (limit : ℕ) (r : Result (Option ℕ) ItemFault) → AllBytes (s ++ t) → ∥ AnswersRead s t limit r ∥₁ → AnswersRead s t limit r
sure_read s t limit (Ok (Some used)) bytes h = (∥∥₁_elim h le_prop (λ x. x.0), sure_whole (s ++ t) limit (length s + used) bytes (∥∥₁_map h (λ x. x.1)))
sure_read s t limit (Ok None) bytes h = sure_ending (s ++ t) limit partial (omega arith) bytes h
sure_read s t limit (Err fault) bytes h = record {
  ends = sure_fault (s ++ t) limit fault bytes (∥∥₁_map h (λ x. x.ends));
  later = ∥∥₁_elim h le_prop (λ x. x.later);
  inside = ∥∥₁_elim h le_prop (λ x. x.inside);
}

-- the place of a fault is inside
pub place_below : (limit : ℕ) (f : ItemFault) → place_in f ≤ taken_at limit f
place_below limit (Malformed at) = omega arith
place_below limit _ = omega arith

-- all but the first so many
abbrev pub later : ℕ → List ℕ → List ℕ
later n rest = take (length rest - n) (drop n rest)

parted : (n : ℕ) (rest : List ℕ) → take n rest ++ later n rest ≡ rest
parted n rest = ap (λ x. take n rest ++ x) (take_rest rest n) ∙ take-append-drop n rest

-- of a rest, of which so many bytes were read
pub rest_read : (reader : ItemReader) (rest : List ℕ) (n : ℕ) (r : Result (Option ℕ) ItemFault) → AllBytes rest → ∥ IsOpen reader (take n rest) ∥₁
    → ((b : List ℕ) → IsOpen reader b → AnswersRead b (later n rest) (reader_limit reader) r) → AnswersRead (take n rest) (later n rest) (reader_limit reader) r
rest_read reader rest n r bytes o answers =
    sure_read (take n rest) (later n rest) (reader_limit reader) r (subst AllBytes (sym (parted n rest)) bytes) (∥∥₁_map o (λ x. answers (take n rest) x))

pub rest_whole : (limit : ℕ) (rest : List ℕ) (n used : ℕ) → n ≤ length rest → AnswersRead (take n rest) (later n rest) limit (Ok (Some used)) → AnswersRest n rest limit (Ok (Some (n + used)))
rest_whole limit rest n used l h =
    (omega arith, (h.1.0, subst (λ x. IsWhole x limit h.1.0 (n + used)) (parted n rest) (subst (λ k. IsWhole (take n rest ++ later n rest) limit h.1.0 (k + used)) (length-take-le n rest l) h.1.1)))

pub rest_waits : (limit : ℕ) (rest : List ℕ) (n : ℕ) → AnswersRead (take n rest) (later n rest) limit (Ok None) → IsPartial rest limit
rest_waits limit rest n h = subst (λ x. IsPartial x limit) (parted n rest) h

pub rest_faulted : (limit : ℕ) (rest : List ℕ) (n : ℕ) (f : ItemFault) → AnswersRead (take n rest) (later n rest) limit (Err f) → MeetsFault (take n rest) rest limit f
rest_faulted limit rest n f h = subst (λ x. MeetsFault (take n rest) x limit f) (parted n rest) h

-- so many steps were taken
pub rest_steps : (reader : ItemReader) (rest : List ℕ) (n before after : ℕ) (r : Result (Option ℕ) ItemFault) → n ≤ length rest → ∥ IsOpen reader (take n rest) ∥₁
    → ((b : List ℕ) → IsOpen reader b → after ≡ before + taken_more (length b) (later n rest) (reader_limit reader) r) → after ≡ before + taken_more n (later n rest) (reader_limit reader) r
rest_steps reader rest n before after r l o steps =
    subst (λ k. after ≡ before + taken_more k (later n rest) (reader_limit reader) r) (length-take-le n rest l) (∥∥₁_elim o (ℕ_set _ _) (λ x. steps (take n rest) x))

-- ---- where the bytes are known to be a whole item

at_true : (reader : ItemReader) (full : Bool) (s : List ℕ) → full ≡ true → ∥ IsAt full reader s ∥₁ → ∥ IsAt true reader s ∥₁
at_true reader full s e h = subst (λ b. ∥ IsAt b reader s ∥₁) e h

pub at_false : (reader : ItemReader) (full : Bool) (s : List ℕ) → full ≡ false → ∥ IsAt full reader s ∥₁ → ∥ IsOpen reader s ∥₁
at_false reader full s e h = subst (λ b. ∥ IsAt b reader s ∥₁) e h

-- a whole item of all these bytes begins the rest
begins_rest : (limit : ℕ) (rest : List ℕ) (n : ℕ) (item : DataItem) → n ≤ length rest → IsWhole (take n rest) limit item (length (take n rest)) → IsWhole rest limit item n
begins_rest limit rest n item l w =
    subst (λ x. IsWhole x limit item n) (take-append-drop n rest) (subst (λ k. IsWhole (take n rest ++ drop n rest) limit item k) (length-take-le n rest l) (whole_stays (take n rest) (drop n rest) limit (length (take n rest)) item w))

pub known_whole : (reader : ItemReader) (full : Bool) (rest : List ℕ) (n : ℕ) → full ≡ true → n ≤ length rest → AllBytes rest → ∥ IsAt full reader (take n rest) ∥₁ → AnswersRest n rest (reader_limit reader) (Ok (Some n))
known_whole reader full rest n e l bytes h =
    (omega arith, sure_whole rest (reader_limit reader) n bytes (∥∥₁_map (at_true reader full (take n rest) e h) (λ x. (x.1.0, begins_rest (reader_limit reader) rest n x.1.0 l x.1.1))))

pub known_open : (reader : ItemReader) (full : Bool) (s : List ℕ) → full ≡ true → ∥ IsAt full reader s ∥₁ → ∥ IsOpen reader [] ∥₁
known_open reader full s e h = ∥∥₁_map (at_true reader full s e h) (λ x. x.0)

-- the first so many bytes are a whole item
whole_front : (limit : ℕ) (rest : List ℕ) (used : ℕ) (item : DataItem) → IsWhole rest limit item used → IsWhole (take used rest) limit item (length (take used rest))
whole_front limit rest used item w =
    let inside = w.inside in
    let within = w.within in
    record {
      encodes = subst (λ x. Encodes item x) (sym (take_all (length (take used rest)) (take used rest) (omega arith))) w.encodes;
      inside = omega arith;
      within = omega (arith, length-take-le used rest inside);
    }

pub at_whole : (new : ItemReader) (limit : ℕ) (rest : List ℕ) (used : ℕ) (item : DataItem) → reader_limit new ≡ limit → IsWhole rest limit item used → ∥ IsOpen new [] ∥₁ → ∥ IsAt true new (take used rest) ∥₁
at_whole new limit rest used item e w o = ∥∥₁_map o (λ x. (x, (item, subst (λ n. IsWhole (take used rest) n item (length (take used rest))) (sym e) (whole_front limit rest used item w))))

-- how the reader stands after all of a rest was read, of which so many bytes were read before
pub rest_then : (reader new : ItemReader) (rest : List ℕ) (n : ℕ) (r : Result (Option ℕ) ItemFault) → ∥ IsOpen reader (take n rest) ∥₁
    → ((b : List ℕ) → IsOpen reader b → IsOpenAfter new (b ++ later n rest) r) → ∥ IsOpenAfter new rest r ∥₁
rest_then reader new rest n r o then = subst (λ x. ∥ IsOpenAfter new x r ∥₁) (parted n rest) (∥∥₁_map o (λ x. then (take n rest) x))

-- ---- in a cutter without a fault

pub opened : (fault : Option CutFault) (full : Bool) (reader : ItemReader) (limit : ℕ) (s : List ℕ) → fault ≡ None → ∥ IsReadTo fault full reader limit s ∥₁ → ∥ IsAt full reader s ∥₁
opened fault full reader limit s none read =
    let h : ∥ (IsAt full reader s × (reader_limit reader ≡ limit)) ∥₁ = subst (λ f. ∥ IsReadTo f full reader limit s ∥₁) none read in
    ∥∥₁_map h (λ x. x.0)

pub limited : (fault : Option CutFault) (full : Bool) (reader : ItemReader) (limit : ℕ) (s : List ℕ) → fault ≡ None → ∥ IsReadTo fault full reader limit s ∥₁ → reader_limit reader ≡ limit
limited fault full reader limit s none read =
    let h : ∥ (IsAt full reader s × (reader_limit reader ≡ limit)) ∥₁ = subst (λ f. ∥ IsReadTo f full reader limit s ∥₁) none read in
    ∥∥₁_elim h (ℕ_set _ _) (λ x. x.1)

pub read_to : (fault : Option CutFault) (full : Bool) (new : ItemReader) (limit : ℕ) (s : List ℕ) → fault ≡ None → ∥ IsAt full new s ∥₁ → reader_limit new ≡ limit → ∥ IsReadTo fault full new limit s ∥₁
read_to fault full new limit s none o same =
    let k : ∥ (IsAt full new s × (reader_limit new ≡ limit)) ∥₁ = ∥∥₁_map o (λ x. (x, same)) in
    subst (λ f. ∥ IsReadTo f full new limit s ∥₁) (sym none) k

-- behind a whole item
pub read_past : (fault : Option CutFault) (full : Bool) (reader : ItemReader) (limit : ℕ) (s : List ℕ) → fault ≡ None → full ≡ true → ∥ IsReadTo fault full reader limit s ∥₁ → ∥ IsReadTo fault false reader limit [] ∥₁
read_past fault full reader limit s none e read =
    read_to fault false reader limit [] none (known_open reader full s e (opened fault full reader limit s none read)) (limited fault full reader limit s none read)
