-- What the store of a node that served was asked, by what happened at the node.
use Rattle.std.proofs.Common.{◌≡◌, refl, sym, ap, ◌∙◌, subst, arith, ℕ, ◌+◌, ◌≤◌, ◌==◌, ◌++◌, Bool, true, false, cond, List, [], ◌∷◌}
use Rattle.std.proofs.lemmas.Bool.{ne_eqb}
use Rattle.std.specs.List.{AllByRecursion}
use Rattle.std.specs.Prelude.{if◌then◌else◌}
use Rattle.grasp_agent.specs.Replies.{after_reply}
use Rattle.grasp_agent.specs.States.{AgentState}
use Rattle.grasp_crew.specs.Nudges.{Nudge, again, still, wanted}
use Rattle.grasp_crew.specs.Servants.{nudge_of}
use Rattle.grasp_crew.specs.Steward.{StewardState, steward_after, steward_nudge, steward_told}
use Rattle.grasp_crew.specs.declared.servant.Servant.{Servant}
use Rattle.grasp_crew.specs.declared.servant.Servant.TheVariants.{Herald, Listener, Steward}
use Rattle.grasp_disk.specs.Calls.{DiskCall, DiskLog, after_made, bytes_of}
use Rattle.grasp_laws_lives.specs.Stores.{asked_around, asked_in}
use Rattle.grasp_laws_members.specs.Acts.{Act, agent_taking, agent_wanting, took, wanted}
use Rattle.grasp_laws_serving.proofs.Agents.{IsCrew, IsOther, IsOtherEntry, others_beside}
use Rattle.grasp_laws_serving.proofs.Happenings.{IsBeside, agent_at, agent_in, all_append, goes_beside}
use Rattle.grasp_laws_serving.proofs.Rounds.{AreLoops, turn_loops}
use Rattle.grasp_laws_serving.specs.Acts.{AreActsOf}
use Rattle.grasp_laws_serving.specs.Lives.{Happening, all_called, called, deed_happens, round_happens, told, want_told}
use Rattle.grasp_pool.specs.declared.image.PoolImage.{PoolImage}
use Rattle.grasp_service.specs.Deeds.{Deed, calls, deed_calls, kept_deed, kept_deeds, rests, told_at}
use Rattle.grasp_service.specs.Keeping.{each_then, kept_opening}
use Rattle.grasp_service_visits.specs.Each.{each_adds}
use Rattle.grasp_shared.specs.History.{Entry, History}
use Rattle.grasp_shelf.specs.Shelves.{kept_before, kept_behind}
use Rattle.grasp_store.proofs.Keepers.{image_decides}
use Rattle.grasp_store.specs.Current.{image_on}
use Rattle.grasp_store.specs.Images.{image_of, is_same_image}
use Rattle.grasp_store.specs.Saving.{save_calls}
use Rattle.grasp_types.specs.declared.address.Locator.{Locator}
use Rattle.grasp_types.specs.declared.reply.Reply.{Reply}

-- ---- what is asked around what happened

abbrev pub asked_at : AgentState → Happening → DiskLog → DiskLog
asked_at a (called e) log = cond (e.caller == 1) (kept_behind (after_reply a e.reply) (kept_before a log)) log
asked_at a (told w) log = log

abbrev pub asked_by : AgentState → List Happening → DiskLog → DiskLog
asked_by a [] log = log
asked_by a (h ∷ hs) log = asked_by (agent_at a h) hs (asked_at a h log)

pub asked_append : (xs ys : List Happening) (a : AgentState) (log : DiskLog) → asked_by a (xs ++ ys) log ≡ asked_by (agent_in a xs) ys (asked_by a xs log)
asked_append [] ys a log = refl
asked_append (x ∷ xs) ys a log = asked_append xs ys (agent_at a x) (asked_at a x log)

-- it is asked around the acts that are what happened
pub asked_acts : (hs : List Happening) (xs : List Act) (a : AgentState) (log : DiskLog) → AreActsOf hs xs → asked_in a xs log ≡ asked_by a hs log
asked_acts [] [] a log are = refl
asked_acts [] (x ∷ xs) a log are = absurd are
asked_acts (h ∷ hs) [] a log are = absurd are
asked_acts (called e ∷ hs) (took t ∷ xs) a log are =
    ap (λ (own : Bool). asked own t.choice.reply) are.0.own ∙ (ap (λ (r : Reply). asked (e.caller == 1) r) are.0.reply ∙ asked_acts hs xs (agent_at a (called e)) (asked_at a (called e) log) are.1)
  where
    asked : Bool → Reply → DiskLog
    asked own r = asked_in (if own then after_reply a r else a) xs (if own then kept_behind (after_reply a r) (kept_before a log) else log)
asked_acts (called e ∷ hs) (wanted l m p ∷ xs) a log are = absurd are
asked_acts (told w ∷ hs) (took t ∷ xs) a log are = absurd are
asked_acts (told w ∷ hs) (wanted l m p ∷ xs) a log are =
    ap (λ (b : AgentState). asked_in b xs log)
    (ap (λ (n : ℕ). agent_wanting a n m p) are.0 ∙ (ap (λ (n : ℕ). agent_wanting a w.length n p) are.1 ∙ ap (λ (q : Locator). agent_wanting a w.length w.longest q) are.2))
    ∙ asked_acts hs xs (agent_at a (told w)) log are.3

-- ---- what asks nothing

-- no call of the agent of prefixes
abbrev pub IsQuiet : Happening → Type 0
IsQuiet (called e) = IsBeside e
IsQuiet (told w) = Unit {0}

abbrev pub AreQuiet : List Happening → Type 0
AreQuiet hs = AllByRecursion IsQuiet hs

pub asked_quiet : (hs : List Happening) (a : AgentState) (log : DiskLog) → AreQuiet hs → asked_by a hs log ≡ log
asked_quiet [] a log quiet = refl
asked_quiet (called e ∷ hs) a log quiet =
    ap (λ (b : Bool). asked_by (agent_at a (called e)) hs (cond b (kept_behind (after_reply a e.reply) (kept_before a log)) log)) quiet.0
    ∙ asked_quiet hs (agent_at a (called e)) log quiet.1
asked_quiet (told w ∷ hs) a log quiet = asked_quiet hs (agent_at a (told w)) log quiet.1

pub beside_quiet : (es : History) → AllByRecursion IsBeside es → AreQuiet (all_called es)
beside_quiet [] all = tt
beside_quiet (e ∷ es) all = (all.0, beside_quiet es all.1)

pub loops_beside : (es : History) → AreLoops es → AllByRecursion IsBeside es
loops_beside [] all = tt
loops_beside (e ∷ es) all = (ap (λ (n : ℕ). n == 1) all.0, loops_beside es all.1)

pub loops_quiet : (es : History) → AreLoops es → AreQuiet (all_called es)
loops_quiet es all = beside_quiet es (loops_beside es all)

want_quiet : (n : Nudge) → AreQuiet (want_told n)
want_quiet still = tt
want_quiet (wanted place w) = (tt, tt)
want_quiet again = tt

deed_quiet : (now caller : ℕ) (m : Servant) (d : Deed) → 2 ≤ caller → AreQuiet (all_called (deed_calls now caller m d))
deed_quiet now caller m rests above = tt
deed_quiet now caller m (calls r) above = (ne_eqb caller 1 (λ e. omega (arith, above, e)), tt)

others_quiet : (crew : List Servant) (deeds : List Deed) (now caller : ℕ) → 2 ≤ caller → AreQuiet (each_adds (deed_happens now) caller crew deeds)
others_quiet [] deeds now caller above = tt
others_quiet (m ∷ crew) [] now caller above = tt
others_quiet (m ∷ crew) (d ∷ deeds) now caller above =
    all_append IsQuiet (deed_happens now caller m d) (each_adds (deed_happens now) (caller + 1) crew deeds)
    (all_append IsQuiet (want_told (nudge_of now m)) (all_called (deed_calls now caller m d)) (want_quiet (nudge_of now m)) (deed_quiet now caller m d above))
    (others_quiet crew deeds now (caller + 1) (omega (arith, above)))

-- ---- the deeds of a round

-- a deed of another agent asks nothing
other_kept : (now : ℕ) (m : Servant) (d : Deed) (log : DiskLog) → IsOther m → kept_deed now m d log ≡ log
other_kept now (Steward m) d log other = absurd other
other_kept now (Herald h) rests log other = refl
other_kept now (Herald h) (calls r) log other = refl
other_kept now (Listener l) rests log other = refl
other_kept now (Listener l) (calls r) log other = refl

others_kept : (crew : List Servant) (deeds : List Deed) (now : ℕ) (log : DiskLog) → AllByRecursion IsOther crew → each_then (kept_deed now) crew deeds log ≡ log
others_kept [] deeds now log others = refl
others_kept (m ∷ crew) [] now log others = refl
others_kept (m ∷ crew) (d ∷ deeds) now log others =
    ap (λ (x : DiskLog). each_then (kept_deed now) crew deeds x) (other_kept now m d log others.0) ∙ others_kept crew deeds now log others.1

-- what was told comes before the call
told_asked : (m : StewardState) (n : Nudge) (ys : List Happening) (log : DiskLog) → asked_by m.agent (want_told n ++ ys) log ≡ asked_by (steward_told m n).agent ys log
told_asked m still ys log = refl
told_asked m (wanted place w) ys log = refl
told_asked m again ys log = refl

own_asked : (now : ℕ) (m : StewardState) (d : Deed) (log : DiskLog) → asked_by m.agent (deed_happens now 1 (Steward m) d) log ≡ kept_deed now (Steward m) d log
unfolding steward_after
own_asked now m rests log = told_asked m (steward_nudge now m) [] log
own_asked now m (calls r) log = told_asked m (steward_nudge now m) (all_called (deed_calls now 1 (Steward m) (calls r))) log

pub deeds_asked : (crew : List Servant) (deeds : List Deed) (now : ℕ) (a : AgentState) (log : DiskLog) → IsCrew a crew
    → asked_by a (each_adds (deed_happens now) 1 crew deeds) log ≡ kept_deeds now crew deeds log
deeds_asked [] deeds now a log is = absurd is
deeds_asked (Herald h ∷ crew) deeds now a log is = absurd is
deeds_asked (Listener l ∷ crew) deeds now a log is = absurd is
deeds_asked (Steward m ∷ crew) [] now a log is = refl
deeds_asked (Steward m ∷ crew) (d ∷ deeds) now a log is =
    let first : List Happening = deed_happens now 1 (Steward m) d in
    let rest : List Happening = each_adds (deed_happens now) 2 crew deeds in
    asked_append first rest a log
    ∙ (asked_quiet rest (agent_in a first) (asked_by a first log) (others_quiet crew deeds now 2 (omega arith))
    ∙ (ap (λ (x : AgentState). asked_by x first log) (sym is.0)
    ∙ (own_asked now m d log ∙ sym (others_kept crew deeds now (kept_deed now (Steward m) d log) is.2))))

-- ---- the opening

-- nothing more is asked
nothing_more : (log : DiskLog) → after_made log [] ≡ log
nothing_more log = refl

same_asks : (log : DiskLog) (a : AgentState) (b : Bool) → b ≡ true → after_made log (if b then [] else save_calls (bytes_of log) (image_of a.pool)) ≡ log
same_asks log a b is = ap (λ (x : Bool). after_made log (if x then [] else save_calls (bytes_of log) (image_of a.pool))) is ∙ nothing_more log

-- where the store has the image of the agent's pool
behind_asks : (log : DiskLog) (a : AgentState) → image_on [] (bytes_of log) ≡ image_of a.pool → kept_behind a log ≡ log
behind_asks log a has =
    same_asks log a (is_same_image (image_on [] (bytes_of log)) (image_of a.pool)) ((image_decides (image_on [] (bytes_of log)) (image_of a.pool)).1 has)

pub opening_asks : (crew : List Servant) (a : AgentState) (log : DiskLog) → IsCrew a crew → image_on [] (bytes_of log) ≡ image_of a.pool → kept_opening crew log ≡ log
opening_asks [] a log is has = absurd is
opening_asks (Herald h ∷ crew) a log is has = absurd is
opening_asks (Listener l ∷ crew) a log is has = absurd is
opening_asks (Steward m ∷ crew) a log is has = behind_asks log m.agent (has ∙ ap (λ (x : AgentState). image_of x.pool) (sym is.0))
