-- What a crash leaves at each moment of calls, and of calls behind others.
use Rattle.std.proofs.Common.{◌≡◌, ℕ, List, [], ◌∷◌, ◌++◌, refl, sym, ap, subst, append_assoc}
use Rattle.grasp_disk.specs.Calls.{DiskCall, DiskLog, DiskState, after_call, after_calls, after_made, state_of}
use Rattle.grasp_disk.specs.Crashes.{Leaves, AtEachMoment, Makes}

module _ (s : DiskState) (P : List ℕ → Type 0) where
  behind_all : (made : List DiskCall) → AtEachMoment s made P → Leaves (after_calls made s) P
  unfolding AtEachMoment
  behind_all [] moments = moments
  behind_all (call ∷ earlier) moments = moments.1

  behind_first : (later earlier : List DiskCall) → AtEachMoment s (later ++ earlier) P → Leaves (after_calls earlier s) P
  unfolding AtEachMoment
  behind_first [] earlier moments = behind_all earlier moments
  behind_first (call ∷ later) earlier moments = behind_first later earlier moments.0

  abbrev pub BehindEachFirst : List DiskCall → Type 0
  BehindEachFirst made = (later earlier : List DiskCall) → made ≡ later ++ earlier → Leaves (after_calls earlier s) P

  pub moments_behind : (made : List DiskCall) → AtEachMoment s made P → BehindEachFirst made
  moments_behind made moments later earlier is = behind_first later earlier (subst (λ (calls : List DiskCall). AtEachMoment s calls P) is moments)

  pub behind_moments : (made : List DiskCall) → BehindEachFirst made → AtEachMoment s made P
  unfolding AtEachMoment
  behind_moments [] behind = behind [] [] refl
  behind_moments (call ∷ earlier) behind =
      (behind_moments earlier (λ later first is. behind (call ∷ later) first (ap (λ (calls : List DiskCall). call ∷ calls) is)), behind [] (call ∷ earlier) refl)

pub moments_imply : (s : DiskState) (made : List DiskCall) (P Q : List ℕ → Type 0) → ((content : List ℕ) → P content → Q content) → AtEachMoment s made P → AtEachMoment s made Q
unfolding AtEachMoment
moments_imply s [] P Q implies moments = λ content may. implies content (moments content may)
moments_imply s (call ∷ earlier) P Q implies moments = (moments_imply s earlier P Q implies moments.0, λ content may. implies content (moments.1 content may))

pub after-append : (later made : List DiskCall) (s : DiskState) → after_calls (later ++ made) s ≡ after_calls later (after_calls made s)
after-append [] made s = refl
after-append (call ∷ later) made s = ap (after_call call) (after-append later made s)

pub moments_join : (s : DiskState) (later made : List DiskCall) (P : List ℕ → Type 0) → AtEachMoment s made P → AtEachMoment (after_calls made s) later P → AtEachMoment s (later ++ made) P
unfolding AtEachMoment
moments_join s [] made P first second = first
moments_join s (call ∷ later) made P first second =
    (moments_join s later made P first second.0, subst (λ (t : DiskState). Leaves t P) (sym (after-append (call ∷ later) made s)) second.1)

pub state_made : (log : DiskLog) (made : List DiskCall) → state_of (after_made log made) ≡ after_calls made (state_of log)
state_made log made = after-append made log.calls log.start

-- the later calls begin where the first have ended
pub makes_join : (First Second : DiskLog → Type 0) (log : DiskLog) (made later : List DiskCall) (P : List ℕ → Type 0) → Makes First log made P → Makes Second (after_made log made) later P → Makes Second log (later ++ made) P
makes_join First Second log made later P first second = record {
  stands = subst (λ (calls : List DiskCall). Second (record { start = log.start; calls = calls; stops = log.stops })) (sym (append_assoc later made log.calls)) second.stands;
  moments = moments_join (state_of log) later made P first.moments (subst (λ (s : DiskState). AtEachMoment s later P) (state_made log made) second.moments);
}

pub makes_imply : (Stands : DiskLog → Type 0) (log : DiskLog) (made : List DiskCall) (P Q : List ℕ → Type 0) → ((content : List ℕ) → P content → Q content) → Makes Stands log made P → Makes Stands log made Q
makes_imply Stands log made P Q implies makes = record { stands = makes.stands; moments = moments_imply (state_of log) made P Q implies makes.moments }
