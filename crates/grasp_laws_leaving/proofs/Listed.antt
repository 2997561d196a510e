-- The declines of an objective are those of its untaken sessions, by rising number.
use Rattle.std.proofs.Common.{◌≡◌, ◌<◌, ℕ, zero, suc, inl, inr, List, [], ◌∷◌, ◌++◌, All, Option, None, Some, refl, sym, ap, ◌∙◌, subst, arith}
use Rattle.std.specs.Prelude.{AllPairs, Contains}
use Rattle.std.proofs.lemmas.List.Elements.{All-nil, All-cons, All-weaker, All-contains}
use Rattle.std.proofs.lemmas.List.Kept.{AllPairs-cons}
use Rattle.std.proofs.lemmas.Option.{same_Some}
use Rattle.grasp_laws_leaving.specs.InTurn.{AreUntaken}
use Rattle.grasp_laws_node.proofs.Meaning.Acts.{number_at}
use Rattle.grasp_laws_node.proofs.Meaning.Declines.{Has, has_all, later, is_later}
use Rattle.grasp_laws_node.specs.Means.{IsUntaken}
use Rattle.grasp_laws_session.proofs.Streams.{is_least}
use Rattle.grasp_model_node.specs.Declines.{Declining, unlistened, decline_at, next_decline, declines_above, declines_of}
use Rattle.grasp_model_node.specs.Node.{NodeState}
use Rattle.grasp_session.proofs.Tables.{state_slot}
use Rattle.grasp_session.specs.Runs.{Reached}
use Rattle.grasp_session.specs.Says.{IsAt}
use Rattle.grasp_session.specs.Sessions.{SessionState, Sessions, session_at, untaken_above_reply}
use Rattle.grasp_session.specs.Transcript.{session_of}
use Rattle.grasp_types.specs.declared.message.Message.TheVariants.{End}
use Rattle.grasp_types.specs.declared.message.Verdict.TheVariants.{Decline}
use Rattle.grasp_types.specs.declared.session.Handle.{Handle}

-- ---- a decline and its session

pub record IsOf (z : Sessions) (d : Declining) (x : SessionState) : Type 0 where
  pub at : session_at z d.handle ≡ Some x
  pub owner : x.owner ≡ 0
  pub stream : d.stream ≡ x.stream
  pub message : d.message ≡ End (session_of x.view) (Decline (Some unlistened))

-- the declines are those of these sessions
abbrev pub AreOf : Sessions → List Declining → List SessionState → Type 0
AreOf z [] [] = Unit {0}
AreOf z [] (x ∷ xs) = ⊥
AreOf z (d ∷ ds) [] = ⊥
AreOf z (d ∷ ds) (x ∷ xs) = IsOf z d x × AreOf z ds xs

pub of_both : (z : Sessions) (ds : List Declining) (xs : List SessionState) (es : List Declining) (ys : List SessionState) → AreOf z ds xs → AreOf z es ys → AreOf z (ds ++ es) (xs ++ ys)
of_both z [] [] es ys a b = b
of_both z [] (x ∷ xs) es ys a b = absurd a
of_both z (d ∷ ds) [] es ys a b = absurd a
of_both z (d ∷ ds) (x ∷ xs) es ys a b = (a.0, of_both z ds xs es ys a.1 b)

-- ---- those of one objective

record Listing (name : List ℕ) (z : Sessions) (above : ℕ) (ds : List Declining) : Type 0 where
  sessions : List SessionState
  of : AreOf z ds sessions
  untaken : All (IsUntaken name) sessions
  later_ones : All (λ (x : SessionState). above < x.number) sessions
  rising : AllPairs (λ (x y : SessionState). x.number < y.number) sessions

none_pairs : {X : Type 0} (R : X → X → Type 0) → AllPairs R []
none_pairs R = λ i j d lt within. absurd (omega (arith, within))

listing : (name : List ℕ) (z : Sessions) (count above : ℕ) → Listing name z above (declines_above z name count above)
unfolding declines_above
listing name z zero above = record { sessions = []; of = tt; untaken = All-nil (IsUntaken name); later_ones = All-nil (λ (x : SessionState). above < x.number); rising = none_pairs (λ (x y : SessionState). x.number < y.number) }
listing name z (suc count) above = by_handle (untaken_above_reply z name above) refl (λ number. listing name z count number) where
  one : (h : Handle) (x : SessionState) → session_at z h ≡ Some x → (above < x.number) × IsUntaken name x → x.number ≡ h.number → Listing name z h.number (declines_above z name count h.number)
      → Listing name z above (decline_at h (Some x) (declines_above z name count h.number))
  one h x e l same rest = record {
    sessions = x ∷ rest.sessions;
    of = (record { at = e; owner = l.1.owner; stream = refl; message = refl }, rest.of);
    untaken = All-cons (IsUntaken name) x rest.sessions l.1 rest.untaken;
    later_ones =
        All-cons (λ (y : SessionState). above < y.number) x rest.sessions l.0
        (All-weaker (λ (y : SessionState). h.number < y.number) (λ (y : SessionState). above < y.number) (λ y lt. let first = l.0 in omega (arith, first, same, lt)) rest.sessions rest.later_ones);
    rising =
        AllPairs-cons (λ (y w : SessionState). y.number < w.number) x rest.sessions
        (All-weaker (λ (y : SessionState). h.number < y.number) (λ (y : SessionState). x.number < y.number) (λ y lt. omega (arith, same, lt)) rest.sessions rest.later_ones) rest.rising;
  }

  by_handle : (o : Option Handle) → untaken_above_reply z name above ≡ o → ((number : ℕ) → Listing name z number (declines_above z name count number))
      → Listing name z above (next_decline z (λ number. declines_above z name count number) o)
  by_handle None e rest = record { sessions = []; of = tt; untaken = All-nil (IsUntaken name); later_ones = All-nil (λ (x : SessionState). above < x.number); rising = none_pairs (λ (x y : SessionState). x.number < y.number) }
  by_handle (Some h) e rest =
      let l = is_least z (later name above) h e in
      subst (λ (o : Option SessionState). Listing name z above (decline_at h o (declines_above z name count h.number))) (sym l.at)
      (one h l.state l.at (is_later name above l.state l.passes) (number_at z h l.state l.at) (rest h.number))

-- ---- they are all

first_there : (x : SessionState) (xs : List SessionState) → Contains (x ∷ xs) x
first_there x xs = (0, omega arith, refl)

later_there : (x y : SessionState) (xs : List SessionState) → Contains xs y → Contains (x ∷ xs) y
later_there x y xs c = let within = c.1 in (suc c.0, omega (arith, within), c.2)

listed : (name : List ℕ) (z : Sessions) (h : Handle) (x : SessionState) (ds : List Declining) (xs : List SessionState) → session_at z h ≡ Some x → Has name h ds → AreOf z ds xs → Contains xs x
listed name z h x [] xs e has of = absurd has
listed name z h x (d ∷ ds) [] e has of = absurd of
listed name z h x (d ∷ ds) (y ∷ ys) e (inl same) of =
    let it : y ≡ x = same_Some y x (sym of.0.at ∙ ap (session_at z) same ∙ e) in
    subst (λ (w : SessionState). Contains (y ∷ ys) w) it (first_there y ys)
listed name z h x (d ∷ ds) (y ∷ ys) e (inr has) of = later_there y x ys (listed name z h x ds ys e has of.1)

live : (z : Sessions) (ds : List Declining) (xs : List SessionState) → AreOf z ds xs → All (λ (x : SessionState). (place : ℕ) × IsAt z place x) xs
live z [] [] of = All-nil (λ (x : SessionState). (place : ℕ) × IsAt z place x)
live z [] (x ∷ xs) of = absurd of
live z (d ∷ ds) [] of = absurd of
live z (d ∷ ds) (x ∷ xs) of = All-cons (λ (y : SessionState). (place : ℕ) × IsAt z place y) x xs (d.handle.place, state_slot z d.handle x of.0.at) (live z ds xs of.1)

-- the declines of an objective, with its sessions
pub record Listed (name : List ℕ) (z : Sessions) (ds : List Declining) : Type 0 where
  pub sessions : List SessionState
  pub of : AreOf z ds sessions
  pub are : AreUntaken name z sessions

pub listed_of : (name : List ℕ) (n : NodeState) → Reached n.sessions → Listed name n.sessions (declines_of n.sessions name)
listed_of name n reached = record { sessions = l.sessions; of = l.of; are = record { rising = l.rising; each = λ x. (there x, back x) } } where
  l : Listing name n.sessions 0 (declines_of n.sessions name)
  l = listing name n.sessions 64 0

  there : (x : SessionState) → Contains l.sessions x → (place : ℕ) × IsAt n.sessions place x × IsUntaken name x
  there x c =
      let p = All-contains (λ (y : SessionState). (place : ℕ) × IsAt n.sessions place y) l.sessions x (live n.sessions (declines_of n.sessions name) l.sessions l.of) c in
      (p.0, p.1, All-contains (IsUntaken name) l.sessions x l.untaken c)

  back : (x : SessionState) → (place : ℕ) × IsAt n.sessions place x × IsUntaken name x → Contains l.sessions x
  back x p =
      let h = has_all name n reached p.0 x p.1 p.2 in
      listed name n.sessions (record { place = p.0; number = x.number }) x (declines_of n.sessions name) l.sessions h.1 h.0 l.of
