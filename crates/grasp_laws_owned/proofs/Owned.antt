-- What changes of the sessions of a node while those of one agent go on, and whose each session is.
use Rattle.std.proofs.Common.{◌≡◌, ◌≢◌, refl, sym, ap, ◌∙◌, subst, arith, inl, inr, ℕ, ◌<◌, zero, suc, ◌==◌, ◌⊎◌, ◌&&◌, ◌||◌, not, Bool, true, false, cond, List, ◌∷◌, length, Contains, Option, None, Some, Ok, slice_set, slice_index_or}
use Rattle.std.proofs.lemmas.Bool.{and_parts, eqb-true}
use Rattle.std.proofs.lemmas.Bool.Decides.{eqb_tells}
use Rattle.std.proofs.lemmas.List.{get_or-set_same, get_or-set_other}
use Rattle.std.proofs.lemmas.Option.{none-some}
use Rattle.grasp_laws_session.proofs.Bounds.{going_test}
use Rattle.grasp_laws_session.proofs.Runs.{set_some, some_state, at_below}
use Rattle.grasp_laws_session.proofs.Says.{started}
use Rattle.grasp_session.proofs.Tables.{state_slot}
use Rattle.grasp_session.specs.Conversation.{has_offered}
use Rattle.grasp_session.specs.Messages.{Far, is_side}
use Rattle.grasp_session.specs.Says.{IsAt}
use Rattle.grasp_session.specs.Sessions.{SessionState, Sessions, session_at, with_transcript, with_owner, after_adopt, is_leaving, left, with_place, changed, mark_at, keep_at, on_stream, receive_reply, after_receive, after_say, begun_state, start_reply, after_start, leave_at, after_mark, after_expire, due}
use Rattle.grasp_session.specs.Transcript.{Mark, Expired, Transcript, Saying, SayStep, SayEnd, SayInvalid, known, is_going, receive, receive_going, having_said, with_kept, with_mark}
use Rattle.grasp_session.specs.declared.answer.Received.TheVariants.{Kept}
use Rattle.grasp_session.specs.declared.begin.Begin.{Begin}
use Rattle.grasp_types.specs.declared.message.Message.{Message}
use Rattle.grasp_types.specs.declared.message.Verdict.TheVariants.{Decline}
use Rattle.grasp_types.specs.declared.session.Handle.{Handle}
use Rattle.grasp_laws_agents.proofs.GoingOn.{Alike, nothing_heard, hears_then, kept_heard, mark_heard, kept_alike, kept_trails, trails_offered}
use Rattle.grasp_laws_agents.specs.GoingOn.{OnlyHears, OnlyHeard}
use Rattle.grasp_laws_owned.specs.Owned.{IsUnsaid, IsOwnedBy, AreOwnedBy, GoOnBy}

-- ---- one more that is no longer live

pub gone_cases : (x y : SessionState) (gone : List SessionState) → Contains (x ∷ gone) y → (x ≡ y) ⊎ Contains gone y
gone_cases x y gone i = by_place i.0 i.1 i.2 where
  by_place : (k : ℕ) → k < length (x ∷ gone) → slice_index_or (x ∷ gone) k y ≡ y → (x ≡ y) ⊎ Contains gone y
  by_place zero h e = inl e
  by_place (suc k) h e = inr (k, omega (arith, h), e)

-- ---- the sessions of the agent go on

overheard_self : (x : SessionState) → OnlyHeard x x
overheard_self x = record { number = refl; owner = refl; stream = refl; view = nothing_heard x.view }

overheard_then : (x y z : SessionState) → OnlyHeard x y → OnlyHeard y z → OnlyHeard x z
overheard_then x y z a b = record {
  number = b.number ∙ a.number;
  owner = b.owner ∙ a.owner;
  stream = b.stream ∙ a.stream;
  view = hears_then x.view y.view z.view a.view b.view;
}

-- those of the agent go on, and each is whose it may be
pub record Same (me : ℕ) (mine : List ℕ) (z w : Sessions) : Type 0 where
  pub goes_on : GoOnBy me z w
  pub clear : AreOwnedBy me mine z → AreOwnedBy me mine w

module _ (me : ℕ) (mine : List ℕ) (least : 0 < me) where
  pub self : (z : Sessions) → Same me mine z z
  self z = record {
    goes_on = record {
      stay = λ place x at own. (x, at, overheard_self x);
      were = λ place x at own. (x, at, overheard_self x);
      gone = λ x i. i;
      left = λ x own i. i;
    };
    clear = λ c. c;
  }

  go_then : (x y z : Sessions) → GoOnBy me x y → GoOnBy me y z → GoOnBy me x z
  go_then x y z a b = record { stay = stays; were = came; gone = λ s i. b.gone s (a.gone s i); left = λ s own i. a.left s own (b.left s own i) } where
    stays : (place : ℕ) (s : SessionState) → IsAt x place s → s.owner ≡ me → (u : SessionState) × IsAt z place u × OnlyHeard s u
    stays place s at own = let t = a.stay place s at own in let u = b.stay place t.0 t.1 (t.2.owner ∙ own) in (u.0, u.1, overheard_then s t.0 u.0 t.2 u.2)

    came : (place : ℕ) (u : SessionState) → IsAt z place u → u.owner ≡ me → (s : SessionState) × IsAt x place s × OnlyHeard s u
    came place u at own = let t = b.were place u at own in let s = a.were place t.0 t.1 (sym t.2.owner ∙ own) in (s.0, s.1, overheard_then s.0 t.0 u s.2 t.2)

  pub and_then : (x y z : Sessions) → Same me mine x y → Same me mine y z → Same me mine x z
  and_then x y z a b = record { goes_on = go_then x y z a.goes_on b.goes_on; clear = λ c. b.clear (a.clear c) }

  -- ---- a place is set

  -- the agent has there what it had, and has said nothing in it
  record PlaceGoes (o v : Option SessionState) : Type 0 where
    stay : (x : SessionState) → o ≡ Some x → x.owner ≡ me → (y : SessionState) × (v ≡ Some y) × OnlyHeard x y
    were : (y : SessionState) → v ≡ Some y → y.owner ≡ me → (x : SessionState) × (o ≡ Some x) × OnlyHeard x y

  -- the agent has nothing there
  abbrev NoneOwn : Option SessionState → Type 0
  NoneOwn o = (x : SessionState) → o ≡ Some x → x.owner ≢ me

  empty_none : NoneOwn None
  empty_none x e = absurd (none-some x e)

  one_none : (x : SessionState) → x.owner ≢ me → NoneOwn (Some x)
  one_none x other y e f = other (ap (λ (s : SessionState). s.owner) (some_state x y e) ∙ f)

  at_none : (o : Option SessionState) (x : SessionState) → o ≡ Some x → x.owner ≢ me → NoneOwn o
  at_none o x e other = subst NoneOwn (sym e) (one_none x other)

  others_go : (o v : Option SessionState) → NoneOwn o → NoneOwn v → PlaceGoes o v
  others_go o v a b = record { stay = λ x e own. absurd (a x e own); were = λ y e own. absurd (b y e own) }

  view_goes : (x : SessionState) (w : Transcript) → (x.owner ≡ me → OnlyHears x.view w) → PlaceGoes (Some x) (Some (with_transcript x w))
  view_goes x w h = record { stay = stays; were = came } where
    same : x.owner ≡ me → OnlyHeard x (with_transcript x w)
    same own = record { number = refl; owner = refl; stream = refl; view = h own }

    stays : (y : SessionState) → Some x ≡ Some y → y.owner ≡ me → (u : SessionState) × (Some (with_transcript x w) ≡ Some u) × OnlyHeard y u
    stays y e own =
        let is : x ≡ y = some_state x y e in
        (with_transcript x w, refl, subst (λ (s : SessionState). OnlyHeard s (with_transcript x w)) is (same (ap (λ (s : SessionState). s.owner) is ∙ own)))

    came : (u : SessionState) → Some (with_transcript x w) ≡ Some u → u.owner ≡ me → (y : SessionState) × (Some x ≡ Some y) × OnlyHeard y u
    came u e own =
        let is : with_transcript x w ≡ u = some_state (with_transcript x w) u e in
        (x, refl, subst (OnlyHeard x) is (same (ap (λ (s : SessionState). s.owner) is ∙ own)))

  -- what is no longer live is so still, and what joined it was not of the agent
  record GoneGrow (a b : List SessionState) : Type 0 where
    gone : (x : SessionState) → Contains a x → Contains b x
    left : (x : SessionState) → x.owner ≡ me → Contains b x → Contains a x

  gone_same : (a : List SessionState) → GoneGrow a a
  gone_same a = record { gone = λ x i. i; left = λ x own i. i }

  gone_more : (y : SessionState) (a : List SessionState) → y.owner ≢ me → GoneGrow a (y ∷ a)
  gone_more y a other = record { gone = λ x i. (suc i.0, omega (arith, i.1), i.2); left = λ x own i. by_place x own i.0 i.1 i.2 } where
    by_place : (x : SessionState) → x.owner ≡ me → (k : ℕ) → k < length (y ∷ a) → slice_index_or (y ∷ a) k x ≡ x → Contains a x
    by_place x own zero h e = absurd (other (ap (λ (s : SessionState). s.owner) e ∙ own))
    by_place x own (suc k) h e = (k, omega (arith, h), e)

  abbrev set : Sessions → ℕ → ℕ → List SessionState → Option SessionState → Sessions
  set z made p gone v = record { made = made; places = slice_set z.places p v; gone = gone }

  module _ (z : Sessions) (made p : ℕ) (gone : List SessionState) (v : Option SessionState) where
    set_goes : PlaceGoes (slice_index_or z.places p None) v → GoneGrow z.gone gone → GoOnBy me z (set z made p gone v)
    set_goes here grow = record { stay = stays; were = came; gone = grow.gone; left = grow.left } where
      at_place : (q : ℕ) (x : SessionState) → q ≡ p → IsAt z q x → x.owner ≡ me → (y : SessionState) × IsAt (set z made p gone v) q y × OnlyHeard x y
      at_place q x e at own =
          let at_p : IsAt z p x = subst (λ k. IsAt z k x) e at in
          let y = here.stay x at_p own in
          (y.0, subst (λ k. IsAt (set z made p gone v) k y.0) (sym e) (get_or-set_same z.places p v None (at_below z.places p x at_p) ∙ y.1), y.2)

      by_place : (q : ℕ) (x : SessionState) → IsAt z q x → x.owner ≡ me → (((q == p) ≡ true) × (q ≡ p)) ⊎ (((q == p) ≡ false) × (q ≢ p)) → (y : SessionState) × IsAt (set z made p gone v) q y × OnlyHeard x y
      by_place q x at own (inl i) = at_place q x i.1 at own
      by_place q x at own (inr i) = (x, get_or-set_other z.places p q v None i.1 ∙ at, overheard_self x)

      stays : (q : ℕ) (x : SessionState) → IsAt z q x → x.owner ≡ me → (y : SessionState) × IsAt (set z made p gone v) q y × OnlyHeard x y
      stays q x at own = by_place q x at own (eqb_tells q p)

      by_set : (q : ℕ) (y : SessionState) → y.owner ≡ me → ((q ≡ p) × (v ≡ Some y)) ⊎ ((q ≢ p) × IsAt z q y) → (x : SessionState) × IsAt z q x × OnlyHeard x y
      by_set q y own (inl i) = let x = here.were y i.1 own in (x.0, subst (λ k. IsAt z k x.0) (sym i.0) x.1, x.2)
      by_set q y own (inr i) = (y, i.1, overheard_self y)

      came : (q : ℕ) (y : SessionState) → IsAt (set z made p gone v) q y → y.owner ≡ me → (x : SessionState) × IsAt z q x × OnlyHeard x y
      came q y at own = by_set q y own (set_some z.places p v q y at)

    pub set_clear : ((y : SessionState) → v ≡ Some y → IsOwnedBy me mine y) → ((x : SessionState) → Contains gone x → IsOwnedBy me mine x) → AreOwnedBy me mine z → AreOwnedBy me mine (set z made p gone v)
    set_clear f g c x (inl i) = by_set (set_some z.places p v i.0 x i.1) where
      by_set : ((i.0 ≡ p) × (v ≡ Some x)) ⊎ ((i.0 ≢ p) × IsAt z i.0 x) → IsOwnedBy me mine x
      by_set (inl k) = f x k.1
      by_set (inr k) = c x (inl (i.0, k.1))
    set_clear f g c x (inr i) = g x i

  -- one more is no longer live
  one_gone : (x : SessionState) (gone : List SessionState) → IsOwnedBy me mine x → ((y : SessionState) → Contains gone y → IsOwnedBy me mine y) → (y : SessionState) → Contains (x ∷ gone) y → IsOwnedBy me mine y
  one_gone x gone c g y i = by_case (gone_cases x y gone i) where
    by_case : (x ≡ y) ⊎ Contains gone y → IsOwnedBy me mine y
    by_case (inl e) = subst (IsOwnedBy me mine) e c
    by_case (inr k) = g y k

  -- those of a table that are no longer live
  pub gone_owned : (z : Sessions) → AreOwnedBy me mine z → (x : SessionState) → Contains z.gone x → IsOwnedBy me mine x
  gone_owned z c x i = c x (inr i)

  pub live_owned : (z : Sessions) (h : Handle) (x : SessionState) → session_at z h ≡ Some x → AreOwnedBy me mine z → IsOwnedBy me mine x
  live_owned z h x e c = c x (inl (h.place, state_slot z h x e))

  -- the session that is put there
  pub one_clear : (y x : SessionState) → IsOwnedBy me mine y → Some y ≡ Some x → IsOwnedBy me mine x
  one_clear y x c e = subst (IsOwnedBy me mine) (some_state y x e) c

  no_clear : (x : SessionState) → None ≡ Some x → IsOwnedBy me mine x
  no_clear x e = absurd (none-some x e)

  -- ---- what is seen changes

  -- a new transcript of a session has the same request, kind and role; and where no agent has taken the session, this end has still made no
  -- step and accepted nothing
  pub record Changes (x : SessionState) (w : Transcript) : Type 0 where
    pub alike : Alike x.view w
    pub unsaid : x.owner ≡ 0 → IsUnsaid x.view → IsUnsaid w

  changed_one : (x : SessionState) (w : Transcript) → Changes x w → IsOwnedBy me mine x → IsOwnedBy me mine (with_transcript x w)
  changed_one x w a c = record {
    own = λ e. (a.alike.kind ∙ (c.own e).0, ap (λ r. r.name) a.alike.request ∙ (c.own e).1);
    foreign = λ e f g. c.foreign e f (sym (ap (λ r. r.name) a.alike.request) ∙ g);
    untaken = λ e. a.alike.kind ∙ c.untaken e;
    unsaid = λ e. a.unsaid e (c.unsaid e);
  }

  leaving_owner : (x : SessionState) → is_leaving x ≡ true → x.owner ≢ me
  leaving_owner x e f = let g : x.owner ≡ 0 = eqb-true x.owner 0 (and_parts (x.owner == 0) (not (is_going x.view)) e).0 in omega (arith, f, g, least)

  module _ (z : Sessions) (h : Handle) (x : SessionState) (w : Transcript) (e : session_at z h ≡ Some x) where
    pub changes_go : (x.owner ≡ me → OnlyHears x.view w) → GoOnBy me z (changed z h (with_transcript x w))
    changes_go o = by_test (is_leaving (with_transcript x w)) refl where
      by_test : (b : Bool) → is_leaving (with_transcript x w) ≡ b → GoOnBy me z (cond b (left z h (with_transcript x w)) (with_place z h.place (Some (with_transcript x w))))
      by_test true l =
          let other : x.owner ≢ me = leaving_owner (with_transcript x w) l in
          set_goes z z.made h.place (with_transcript x w ∷ z.gone) None (others_go (slice_index_or z.places h.place None) None (at_none (slice_index_or z.places h.place None) x (state_slot z h x e) other) empty_none)
          (gone_more (with_transcript x w) z.gone other)
      by_test false l =
          set_goes z z.made h.place z.gone (Some (with_transcript x w)) (subst (λ o. PlaceGoes o (Some (with_transcript x w))) (sym (state_slot z h x e)) (view_goes x w o)) (gone_same z.gone)

    pub changes_clear : Changes x w → AreOwnedBy me mine z → AreOwnedBy me mine (changed z h (with_transcript x w))
    changes_clear a c = by_test (is_leaving (with_transcript x w)) where
      now_clear : IsOwnedBy me mine (with_transcript x w)
      now_clear = changed_one x w a (live_owned z h x e c)

      by_test : (b : Bool) → AreOwnedBy me mine (cond b (left z h (with_transcript x w)) (with_place z h.place (Some (with_transcript x w))))
      by_test true = set_clear z z.made h.place (with_transcript x w ∷ z.gone) None no_clear (one_gone (with_transcript x w) z.gone now_clear (gone_owned z c)) c
      by_test false = set_clear z z.made h.place z.gone (Some (with_transcript x w)) (λ y f. one_clear (with_transcript x w) y now_clear f) (gone_owned z c) c

    changes : (x.owner ≡ me → OnlyHears x.view w) → Changes x w → Same me mine z (changed z h (with_transcript x w))
    changes o a = record { goes_on = changes_go o; clear = changes_clear a }

  -- a mark
  mark_changes : (x : SessionState) (mark : Mark) → Changes x (with_mark x.view mark)
  mark_changes x mark = record { alike = record { role = refl; kind = refl; session = refl; request = refl }; unsaid = λ e f. record { listens = f.listens; unmade = f.unmade; unaccepted = f.unaccepted } }

  pub marks : (z : Sessions) (mark : Mark) (o : Option Handle) → Same me mine z (mark_at z mark o)
  marks z mark None = self z
  marks z mark (Some h) = by_state (session_at z h) refl where
    by_going : (x : SessionState) → session_at z h ≡ Some x → (b : Bool) → is_going x.view ≡ b → Same me mine z (cond b (changed z h (with_transcript x (with_mark x.view mark))) z)
    by_going x e true g = changes z h x (with_mark x.view mark) e (λ own. mark_heard x.view mark g) (mark_changes x mark)
    by_going x e false g = self z

    by_state : (s : Option SessionState) → session_at z h ≡ s → Same me mine z (mark_at z mark (Some h))
    by_state None e = rw e (self z)
    by_state (Some x) e = rw e (by_going x e (is_going x.view) refl)

  pub marks_on : (z : Sessions) (stream : ℕ) (mark : Mark) → Same me mine z (after_mark z stream mark)
  marks_on z stream mark = marks z mark (on_stream z stream)

  pub expires : (z : Sessions) (now : ℕ) → Same me mine z (after_expire z now)
  expires z now = marks z (Expired now) (due z now)

  -- what is said
  said_alike : (v : Transcript) (now : ℕ) (s : Saying) → Alike v (having_said v now s)
  said_alike v now (SayStep value) = record { role = refl; kind = refl; session = refl; request = refl }
  said_alike v now _ = record { role = refl; kind = refl; session = refl; request = refl }

  no_offer : (b c : Bool) → c ≡ false → ((b && false) || c) ≡ false
  no_offer true c e = e
  no_offer false c e = e

  -- what is said where no agent has taken the session: a decline, or that the last message was invalid
  abbrev pub IsRefusal : Saying → Type 0
  IsRefusal (SayEnd (Decline reason)) = Unit {0}
  IsRefusal (SayInvalid detail) = Unit {0}
  IsRefusal _ = ⊥

  refused_unsaid : (v : Transcript) (now : ℕ) (s : Saying) → IsRefusal s → IsUnsaid v → IsUnsaid (having_said v now s)
  refused_unsaid v now (SayEnd (Decline reason)) l e = record { listens = e.listens; unmade = no_offer (is_side Far v.role) (has_offered Far (known v)) e.unmade; unaccepted = e.unaccepted }
  refused_unsaid v now (SayInvalid detail) l e = record { listens = e.listens; unmade = e.unmade; unaccepted = e.unaccepted }
  refused_unsaid v now _ l e = absurd l

  said_changes : (x : SessionState) (now : ℕ) (s : Saying) → (x.owner ≡ 0 → IsRefusal s) → Changes x (having_said x.view now s)
  said_changes x now s l = record { alike = said_alike x.view now s; unsaid = λ e f. refused_unsaid x.view now s (l e) f }

  pub says_clear : (z : Sessions) (now : ℕ) (h : Handle) (s : Saying) → ((x : SessionState) → session_at z h ≡ Some x → x.owner ≡ 0 → IsRefusal s) → AreOwnedBy me mine z → AreOwnedBy me mine (after_say z now h s)
  says_clear z now h s l c = by_state (session_at z h) refl where
    by_state : (o : Option SessionState) → session_at z h ≡ o → AreOwnedBy me mine (after_say z now h s)
    by_state None e = rw e c
    by_state (Some x) e = rw e (changes_clear z h x (having_said x.view now s) e (said_changes x now s (l x e)) c)

  pub says : (z : Sessions) (now : ℕ) (h : Handle) (s : Saying) → ((x : SessionState) → session_at z h ≡ Some x → x.owner ≢ me) → ((x : SessionState) → session_at z h ≡ Some x → x.owner ≡ 0 → IsRefusal s)
      → Same me mine z (after_say z now h s)
  says z now h s other l = record { goes_on = by_state (session_at z h) refl; clear = says_clear z now h s l } where
    by_state : (o : Option SessionState) → session_at z h ≡ o → GoOnBy me z (after_say z now h s)
    by_state None e = rw e (self z).goes_on
    by_state (Some x) e = rw e (changes_go z h x (having_said x.view now s) e (λ own. absurd (other x e own)))

  -- what is kept
  kept_changes : (x : SessionState) (now : ℕ) (m : Message) → receive_going x.view m ≡ Kept → Changes x (with_kept x.view now m)
  kept_changes x now m e = record {
    alike = kept_alike x.view now m e;
    unsaid = λ f g. record {
      listens = (kept_alike x.view now m e).role ∙ g.listens;
      unmade = sym (subst (λ s. has_offered s (known x.view) ≡ has_offered s (known (with_kept x.view now m))) g.listens (trails_offered x.view.role (known x.view) (known (with_kept x.view now m)) (kept_trails x.view now m))) ∙ g.unmade;
      unaccepted = g.unaccepted;
    };
  }

  pub keeps : (z : Sessions) (now stream : ℕ) (m : Message) → receive_reply z stream m ≡ Kept → Same me mine z (after_receive z now stream m Kept)
  keeps z now stream m r = by_handle (on_stream z stream) refl where
    by_state : (h : Handle) (o : Option SessionState) → session_at z h ≡ o → on_stream z stream ≡ Some h → Same me mine z (keep_at z now m (Some h))
    by_state h None e f = rw e (self z)
    by_state h (Some x) e f =
        let got : receive x.view m ≡ Kept = sym (rw f (rw e refl)) ∙ r in
        rw e (changes z h x (with_kept x.view now m) e (λ own. kept_heard x.view now m got) (kept_changes x now m (going_test (is_going x.view) (receive_going x.view m) got)))

    by_handle : (o : Option Handle) → on_stream z stream ≡ o → Same me mine z (keep_at z now m o)
    by_handle None f = self z
    by_handle (Some h) f = by_state h (session_at z h) refl f

  -- ---- a session begins or leaves

  pub starts : (z : Sessions) (now : ℕ) (b : Begin) (h : Handle) → start_reply z ≡ Ok h → b.owner ≢ me → IsOwnedBy me mine (begun_state now h.number b) → Same me mine z (after_start z now b (Ok h))
  starts z now b h e other c = record {
    goes_on =
        set_goes z h.number h.place z.gone (Some (begun_state now h.number b))
        (others_go (slice_index_or z.places h.place None) (Some (begun_state now h.number b)) (subst NoneOwn (sym (started z h e).empty) empty_none) (one_none (begun_state now h.number b) other)) (gone_same z.gone);
    clear = λ k. set_clear z h.number h.place z.gone (Some (begun_state now h.number b)) (λ y f. one_clear (begun_state now h.number b) y c f) (gone_owned z k) k;
  }

  -- no session of the agent lies at this place
  abbrev pub IsOthersAt : Sessions → ℕ → Type 0
  IsOthersAt z place = (x : SessionState) → IsAt z place x → x.owner ≢ me

  pub others_at : (z : Sessions) (place : ℕ) (x : SessionState) → IsAt z place x → x.owner ≢ me → IsOthersAt z place
  others_at z place x at other = at_none (slice_index_or z.places place None) x at other

  pub stays_others : (y z : Sessions) (place : ℕ) → Same me mine y z → IsOthersAt y place → IsOthersAt z place
  stays_others y z place s a x at own = let w = s.goes_on.were place x at own in a w.0 w.1 (sym w.2.owner ∙ own)

  pub leaves_clear : (z : Sessions) (h : Handle) (o : Option SessionState) → session_at z h ≡ o → AreOwnedBy me mine z → AreOwnedBy me mine (leave_at z h o)
  leaves_clear z h None e c = c
  leaves_clear z h (Some x) e c = set_clear z z.made h.place (x ∷ z.gone) None no_clear (one_gone x z.gone (live_owned z h x e c) (gone_owned z c)) c

  pub leaves : (z : Sessions) (h : Handle) (o : Option SessionState) → session_at z h ≡ o → IsOthersAt z h.place → Same me mine z (leave_at z h o)
  leaves z h o e a = record { goes_on = by_state o e; clear = leaves_clear z h o e } where
    by_state : (o : Option SessionState) → session_at z h ≡ o → GoOnBy me z (leave_at z h o)
    by_state None f = (self z).goes_on
    by_state (Some x) f = set_goes z z.made h.place (x ∷ z.gone) None (others_go (slice_index_or z.places h.place None) None a empty_none) (gone_more x z.gone (a x (state_slot z h x f)))

  -- another agent takes a session that no agent had taken
  pub adopts : (z : Sessions) (asa : ℕ) (h : Handle) (x : SessionState) → session_at z h ≡ Some x → x.owner ≢ me → asa ≢ me → (IsOwnedBy me mine x → IsOwnedBy me mine (with_owner x asa)) → Same me mine z (after_adopt z asa h)
  adopts z asa h x e free other f =
      rw e
      (record {
        goes_on =
            set_goes z z.made h.place z.gone (Some (with_owner x asa))
            (others_go (slice_index_or z.places h.place None) (Some (with_owner x asa)) (at_none (slice_index_or z.places h.place None) x (state_slot z h x e) free) (one_none (with_owner x asa) other)) (gone_same z.gone);
        clear = λ c. set_clear z z.made h.place z.gone (Some (with_owner x asa)) (λ y g. one_clear (with_owner x asa) y (f (live_owned z h x e c)) g) (gone_owned z c) c;
      })
