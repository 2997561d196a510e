-- Lives that begin with what a crash may have left are turns of one network, which keeps the promise.
use Rattle.std.proofs.Common.{◌≡◌, refl, sym, ap, ◌∙◌, subst, arith, ℕ, ◌+◌, ◌-◌, ◌*◌, ◌<◌, ◌≤◌, ◌^◌, Bool, true, All, List, [], ◌∷◌, length, Some}
use Rattle.std.proofs.lemmas.List.Elements.{All-weaker}
use Rattle.std.proofs.lemmas.Option.{same_Some}
use Rattle.std.specs.List.{AllByRecursion}
use Rattle.grasp_agent.specs.Kept.{IsKept}
use Rattle.grasp_agent.specs.Reopening.{MayReopen}
use Rattle.grasp_agent.specs.States.{AgentState}
use Rattle.grasp_disk.specs.Memory.{all_kept, log_from}
use Rattle.grasp_laws_agents.proofs.Reserving.{opened_kept}
use Rattle.grasp_laws_lives.proofs.Courses.{comes, Comes}
use Rattle.grasp_laws_lives.proofs.Keeping.{Keeps, Leaves, life_leaves}
use Rattle.grasp_laws_lives.proofs.Lives.{AllLengths, HaveLengths, later_size, lives_lengths, lives_size, size_of}
use Rattle.grasp_laws_lives.specs.Courses.{AreLater, AreLives, AreLiving, IsLivedCourse, LaterLife, LifeMoment, lives_after, lives_at, networks_lived, seat_anew, seat_lived}
use Rattle.grasp_laws_lives.specs.Laws.{AllHaveLived, KeptLivesAreSafe}
use Rattle.grasp_laws_lives.specs.Stores.{AreKept, AreKeptFrom, HaveLived, IsFirstDisk, MayBeLife}
use Rattle.grasp_laws_members.specs.Acts.{Act, agent_after}
use Rattle.grasp_laws_members.specs.Laws.{MembersTakeTurns}
use Rattle.grasp_laws_network.proofs.Appended.{numbered_get}
use Rattle.grasp_laws_network.proofs.Begun.{begun_pool}
use Rattle.grasp_laws_network.proofs.Here.{numbered_within}
use Rattle.grasp_laws_network.proofs.Lists.{numbered_there}
use Rattle.grasp_laws_network.proofs.Lives.{first_present}
use Rattle.grasp_laws_network.proofs.Staying.{first_seats}
use Rattle.grasp_laws_prefixes.proofs.FirstPrefixes.{IsFirst, is_first}
use Rattle.grasp_laws_store.proofs.Ordering.{pools_have_their_images}
use Rattle.grasp_model_network.proofs.Facts.{first_reached, numbered_all}
use Rattle.grasp_model_network.specs.GoodSetting.{IsGoodMember, IsGoodSetting}
use Rattle.grasp_model_network.specs.Openings.{first_seat}
use Rattle.grasp_model_network.specs.Plans.{IsNode}
use Rattle.grasp_model_network.specs.Runs.{IsReached, first_world}
use Rattle.grasp_model_network.specs.Setting.{Member, Setting, numbered}
use Rattle.grasp_model_network.specs.World.{Seat, present_life, seat_at}
use Rattle.grasp_model_node.specs.declared.plan.NodePlan.{NodePlan}
use Rattle.grasp_model_script.specs.Laws.{EachNetworkIsSafe}
use Rattle.grasp_model_script.specs.Safe.{IsSafe}
use Rattle.grasp_pool.proofs.Opening.{image_opens, opened_pool, reopened_pool}
use Rattle.grasp_pool.specs.Answers.{IsOpened, IsReopened}
use Rattle.grasp_pool.specs.Functions.{pool_of, pool_of_image}
use Rattle.grasp_pool.specs.Holdings.{Holding}
use Rattle.grasp_pool.specs.declared.image.PoolImage.{PoolImage}
use Rattle.grasp_store.specs.Current.{Holds, image_on}
use Rattle.grasp_store.specs.Images.{image_of}

-- ---- one life after the other

-- a life that begins with what is left of a disk has its image
begins_keeping : (plan : NodePlan) (a : AgentState) (content : List ℕ) (most : ℕ) → Leaves a content most → Keeps (seat_anew plan (image_on [] content)).agent (all_kept content) most
begins_keeping plan a content most left =
    let image : PoolImage = image_on [] content in
    let opens : IsReopened image (pool_of_image image) = image_opens image left.may.few left.may.disjoint in
    record {
      kept = opened_kept plan (pool_of_image image) (reopened_pool image opens) opens.reserved;
      settled = refl;
      holds = record { sound = left.sound; has = sym (ap image_of (begun_pool plan (pool_of_image image)) ∙ pools_have_their_images image left.fit.good left.fit.order) };
      number = left.number;
    }

pub later_lives : (ls : List LaterLife) (plan : NodePlan) (a : AgentState) (bytes : List ℕ) (acts : List Act) (most : ℕ) → Keeps a (all_kept bytes) most → HaveLengths acts
    → AllByRecursion (λ (x : LaterLife). HaveLengths x.acts) ls → AllByRecursion (MayBeLife plan) ls → most + 2 * (length acts + later_size ls) < 2 ^ 64 - 1 → AreKept plan a bytes acts ls
    → AreLater plan (agent_after a acts) ls
later_lives [] plan a bytes acts most keeps lengths all may below kept = tt
later_lives (l ∷ ls) plan a bytes acts most keeps lengths all may below kept =
    let leaves : Leaves (agent_after a acts) kept.0 (most + 2 * length acts + 2) = life_leaves a (log_from bytes) acts kept.0 most lengths (omega (arith, below)) keeps kept.1 in
    let begins : Keeps (seat_anew plan l.image).agent (all_kept kept.0) (most + 2 * length acts + 2) =
    subst (λ (i : PoolImage). Keeps (seat_anew plan i).agent (all_kept kept.0) (most + 2 * length acts + 2)) (sym kept.2)
    (begins_keeping plan (agent_after a acts) kept.0 (most + 2 * length acts + 2) leaves) in (
      subst (MayReopen (agent_after a acts)) (sym kept.2) leaves.may,
      may.0,
      later_lives ls plan (seat_anew plan l.image).agent kept.0 l.acts (most + 2 * length acts + 2) begins all.0 all.1 may.1 (omega (arith, below)) kept.3,
    )

-- ---- the lives of a member

module _ (s : Setting) (good : IsGoodSetting s) (node : ℕ) (m : Member) (found : numbered s.members node ≡ Some m) where
  pub member_is : IsNode (length s.members) node
  member_is = numbered_within s.members node m found

  opened : IsOpened m.roots (pool_of m.roots)
  opened = (numbered_all (IsGoodMember good.limit) s.members node m good.members found).pool

  first_kept : IsKept (first_seat m).agent
  first_kept = opened_kept m.plan (pool_of m.roots) (opened_pool m.roots opened) opened.reserved

  first_keeps : (bytes : List ℕ) → IsFirstDisk m.roots bytes → Keeps (first_seat m).agent (all_kept bytes) (2 ^ 62)
  first_keeps bytes f = record {
    kept = first_kept;
    settled = refl;
    holds = subst (λ (h : Holding). Holds [] bytes (image_of h)) (sym (begun_pool m.plan (pool_of m.roots))) f.holds;
    number = omega (arith, f.number);
  }

  lives_are : (acts : List Act) (ls : List LaterLife) → HaveLengths acts → AllByRecursion (λ (x : LaterLife). HaveLengths x.acts) ls → AllByRecursion (MayBeLife m.plan) ls
      → length acts + later_size ls < 2 ^ 62 → AreKeptFrom m acts ls → AreLater m.plan (agent_after (first_seat m).agent acts) ls
  lives_are acts [] lengths all may few kept = tt
  lives_are acts (l ∷ ls) lengths all may few kept =
      later_lives (l ∷ ls) m.plan (first_seat m).agent kept.0 acts (2 ^ 62) (first_keeps kept.0 kept.1) lengths all may (omega (arith, few)) kept.2

  pub first_stands : (seat : Seat) → seat_at (first_world s) (present_life (first_world s) node) ≡ Some seat → seat ≡ first_seat m
  first_stands seat here = from (is_first s node seat (subst (λ (n : ℕ). seat_at (first_world s) n ≡ Some seat) (first_present s node member_is) here)) where
    from : IsFirst s node seat → seat ≡ first_seat m
    from f = f.made ∙ ap first_seat (same_Some f.member m (sym f.stands ∙ numbered_get s.members node m found))

  pub first_there : (seat : Seat) × (seat_at (first_world s) (present_life (first_world s) node) ≡ Some seat)
  first_there =
      numbered_there (first_world s).seats (present_life (first_world s) node)
      (subst (λ (n : ℕ). IsNode n (present_life (first_world s) node)) (sym (first_seats s)) (subst (λ (n : ℕ). IsNode (length s.members) n) (sym (first_present s node member_is)) member_is))

-- ---- the network

module _ (take : MembersTakeTurns) (safe : EachNetworkIsSafe) (runs : ℕ → Bool) (s : Setting) (ms : List LifeMoment) (good : IsGoodSetting s) (few : length ms < 2 ^ 62) (are : AllHaveLived runs s ms)
    (course : IsLivedCourse runs s (first_world s) ms) where
  lives_first : (node : ℕ) (m : Member) → numbered s.members node ≡ Some m → HaveLived m (lives_at node ms) → AreLives m.plan (first_seat m) (lives_at node ms)
  lives_first node m found h =
      let lengths : AllLengths (lives_at node ms) = lives_lengths runs s node ms (first_world s) course in
      let size : size_of (lives_at node ms) ≤ length ms = lives_size node ms in
      (h.first, lives_are s good node m found (lives_at node ms).acts (lives_at node ms).later lengths.acts lengths.later h.later (omega (arith, size, few)) h.kept)

  living : AreLiving runs s (first_world s) ms
  living = record {
    members = λ node is. let a = are node is in member_is s good node a.0 a.1;
    lives = λ node m seat is found here.
        let a = are node is in
        subst (λ (y : Seat). AreLives m.plan y (lives_at node ms)) (sym (first_stands s good node m found seat here))
        (subst (λ (y : Member). AreLives y.plan (first_seat y) (lives_at node ms)) (same_Some a.0 m (sym a.1 ∙ found)) (lives_first node a.0 a.1 a.2));
  }

  all_come : Comes runs s (first_world s) ms
  all_come = comes take runs s ms (first_world s) (first_reached s good) living course

  pub all_safe : All (IsSafe s) (networks_lived s (first_world s) ms)
  all_safe = All-weaker (IsReached s) (IsSafe s) (λ w r. safe s w r) (networks_lived s (first_world s) ms) all_come.reached

  pub seats : (node : ℕ) (m : Member) → runs node ≡ true → numbered s.members node ≡ Some m
      → seat_at (lives_after s (first_world s) ms) (present_life (lives_after s (first_world s) ms) node) ≡ Some (seat_lived m.plan (first_seat m) (lives_at node ms))
  seats node m is found = at_seat (first_there s good node m found) where
    at_seat : (seat : Seat) × (seat_at (first_world s) (present_life (first_world s) node) ≡ Some seat)
        → seat_at (lives_after s (first_world s) ms) (present_life (lives_after s (first_world s) ms) node) ≡ Some (seat_lived m.plan (first_seat m) (lives_at node ms))
    at_seat f =
        all_come.seats node m f.0 is found f.1
        ∙ ap (λ (y : Seat). Some (seat_lived m.plan y (lives_at node ms))) (first_stands s good node m found f.0 f.1)

pub kept_lives_are_safe : MembersTakeTurns → EachNetworkIsSafe → KeptLivesAreSafe
kept_lives_are_safe take safe = record {
  safe = λ runs s ms good few are course. all_safe take safe runs s ms good few are course;
  seats = λ runs s ms good few are course node m is found. seats take safe runs s ms good few are course node m is found;
}
