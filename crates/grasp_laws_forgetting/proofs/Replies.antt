-- What an image has of an agent's pool, also once its call is answered.
use Rattle.std.proofs.Common.{◌≡◌, ◌⊎◌, inl, inr, ℕ, List, Contains, Option, None, Some, refl, sym, subst}
use Rattle.std.proofs.lemmas.List.Elements.{Contains-append_left, Contains-append_right}
use Rattle.grasp_agent.specs.Changes.{change_of}
use Rattle.grasp_agent.specs.Kept.{IsKept}
use Rattle.grasp_agent.specs.Replies.{after_reply}
use Rattle.grasp_agent.specs.States.{AgentState, accepted_by, offered_by}
use Rattle.grasp_agent.specs.declared.act.Act.{Act}
use Rattle.grasp_agent.specs.declared.act.Act.TheVariants as act
use Rattle.grasp_agent.specs.declared.change.PoolChange.{PoolChange}
use Rattle.grasp_agent.specs.declared.change.PoolChange.TheVariants.{Stays, Gained, Given, Back, Doubted, Decided}
use Rattle.grasp_laws_agent.specs.Changes.{Changes, OffersIn}
use Rattle.grasp_laws_agent.specs.Moves.{TakesBack}
use Rattle.grasp_laws_agent.proofs.LawChanges.{replies_change_pools}
use Rattle.grasp_laws_agent.proofs.LawGains.{gains_accepted}
use Rattle.grasp_pool.specs.Functions.{add, each}
use Rattle.grasp_pool.specs.Holdings.{Holding, IsFree, IsListed}
use Rattle.grasp_pool.specs.Listings.{all_of}
use Rattle.grasp_pool.specs.Spans.{Covers}
use Rattle.grasp_pool.specs.declared.image.PoolImage.{PoolImage}
use Rattle.grasp_pool.proofs.Equal.{add_members}
use Rattle.grasp_store.specs.Images.{image_accepting, image_before, image_of}
use Rattle.grasp_store.proofs.Images.{IsJoined, listed_joined}
use Rattle.grasp_types.specs.Prefix.{AddressBlock as Prefix, span_of}
use Rattle.grasp_types.specs.declared.reply.Reply.{Reply}
use Rattle.grasp_types.specs.declared.reply.Reply.TheVariants as reply
use Rattle.grasp_types.specs.declared.reply.ApiAnswer.TheVariants as answer
use Rattle.grasp_types.specs.declared.session.Handle.{Handle}
use Rattle.grasp_laws_forgetting.specs.Accepted.{IsOfAll, Accepts}
use Rattle.grasp_laws_forgetting.specs.Forgetting.{Has}

-- ---- images

-- each address that the pool has is of a prefix of the image
abbrev pub HasAll : PoolImage → Holding → Type 0
HasAll image pool = (x : ℕ) → Has pool x → Covers (all_of image) x

in_doubt : (image : PoolImage) (p : Prefix) (x : ℕ) → Contains image.doubtful p → span_of p x → Covers (all_of image) x
in_doubt image p x there on = (p, Contains-append_right image.free image.doubtful p there, on)

of_all : (pool : Holding) (image : PoolImage) → IsOfAll pool image → HasAll image pool
of_all pool image of x (inl (p, there, on)) = (p, Contains-append_left image.free image.doubtful p (subst (λ (ps : List Prefix). Contains ps p) (sym of.free) there), on)
of_all pool image of x (inr (p, listed, on)) = in_doubt image p x (of.listed p listed) on

module _ (a : AgentState) (kept : IsKept a) where
  all_joined : IsJoined a.pool.reserved a.pool.doubtful (each add a.pool.reserved a.pool.doubtful)
  all_joined = listed_joined a.pool kept.pool

  pub behind_of : IsOfAll a.pool (image_of a.pool)
  behind_of = record { free = refl; listed = λ p listed. (all_joined.members p).1 listed }

  pub before_of : IsOfAll a.pool (image_before a)
  before_of = by a.act where
    by : (o : Option Act) → IsOfAll a.pool (image_accepting (accepted_by o) (image_of a.pool))
    by None = behind_of
    by (Some (act.Offer place h p)) = behind_of
    by (Some (act.Counter h n)) = behind_of
    by (Some (act.Decline h reason)) = behind_of
    by (Some (act.Accept h p)) = record { free = refl; listed = λ q listed. (add_members p (each add a.pool.reserved a.pool.doubtful) q).1 (inl ((all_joined.members q).1 listed)) }

  pub behind_has : HasAll (image_of a.pool) a.pool
  behind_has = of_all a.pool (image_of a.pool) behind_of

  pub before_has : HasAll (image_before a) a.pool
  before_has = of_all a.pool (image_before a) before_of

-- what a call accepts is in doubt in the image before it
pub accepted_before : (a : AgentState) (p : Prefix) → Accepts a p → Contains (image_before a).doubtful p
accepted_before a p (h, is) =
    subst (λ (o : Option Act). Contains (image_accepting (accepted_by o) (image_of a.pool)).doubtful p) (sym is)
    ((add_members p (each add a.pool.reserved a.pool.doubtful) p).1 (inr refl))

-- ---- replies

-- what has changed before is what the pool had
taken_back : (last : Option Prefix) (old between : Holding) → TakesBack last old between → (x : ℕ) → Has between x → Has old x
taken_back None old between same x has = subst (λ (h : Holding). Has h x) same has
taken_back (Some p) old between g x (inl free) = elim ((g.free x).0 free) [ inl was ↦ inl was | inr on ↦ inr (p, inl g.was, on) ]
taken_back (Some p) old between g x (inr (q, inl there, on)) = inr (q, inl ((g.reserved q).0 there).0, on)
taken_back (Some p) old between g x (inr (q, inr there, on)) = inr (q, inr (subst (λ (ps : List Prefix). Contains ps q) g.doubtful there), on)

offered : (offer : Option Prefix) (between new : Holding) → OffersIn offer between new → (q : Prefix) (x : ℕ) → IsListed new q → span_of q x → Has between x
offered None between new same q x listed on = inr (q, subst (λ (h : Holding). IsListed h q) same listed, on)
offered (Some p) between new g q x (inl there) on =
    elim ((g.reserved q).0 there) [ inl was ↦ inr (q, inl was, on) | inr same ↦ inl (g.was x (subst (λ (t : Prefix). span_of t x) same on)) ]
offered (Some p) between new g q x (inr there) on = inr (q, inr (subst (λ (ps : List Prefix). Contains ps q) g.doubtful there), on)

-- what is listed after a change is of addresses that the pool had
had : (change : PoolChange) (offer : Option Prefix) (old new : Holding) → Changes change offer old new → (q : Prefix) (x : ℕ) → IsListed new q → span_of q x → Has old x
had Stays offer old new same q x listed on = inr (q, subst (λ (h : Holding). IsListed h q) same listed, on)
had (Gained p) offer old new g q x (inl there) on = inr (q, inl (subst (λ (ps : List Prefix). Contains ps q) g.reserved there), on)
had (Gained p) offer old new g q x (inr there) on = inr (q, inr (subst (λ (ps : List Prefix). Contains ps q) g.doubtful there), on)
had (Given p) offer old new g q x (inl there) on = inr (q, inl ((g.reserved q).0 there).0, on)
had (Given p) offer old new g q x (inr there) on = inr (q, inr (subst (λ (ps : List Prefix). Contains ps q) g.doubtful there), on)
had (Back p) offer old new g q x (inl there) on = inr (q, inl ((g.reserved q).0 there).0, on)
had (Back p) offer old new g q x (inr there) on = inr (q, inr (subst (λ (ps : List Prefix). Contains ps q) g.doubtful there), on)
had (Doubted p) offer old new g q x (inl there) on = inr (q, inl ((g.reserved q).0 there).0, on)
had (Doubted p) offer old new g q x (inr there) on =
    elim ((g.doubtful q).0 there) [ inl was ↦ inr (q, inr was, on) | inr same ↦ inr (q, inl (subst (λ (t : Prefix). Contains old.reserved t) (sym same) g.was), on) ]
had (Decided last) offer old new (between, back, offers) q x listed on = taken_back last old between back x (offered offer between new offers q x listed on)

-- the image before a call has all that the pool has then, whatever it is answered
pub replied_has : (a : AgentState) (r : Reply) → IsKept a → HasAll (image_before a) (after_reply a r).pool
replied_has a r kept x (inl free) = by (gains_accepted a r x kept free) where
  by : IsFree a.pool x ⊎ (((p : Prefix) × Contains a.pool.reserved p × span_of p x) ⊎ ((h : Handle) × (p : Prefix) × (a.act ≡ Some (act.Accept h p)) × (r ≡ reply.Api answer.Done) × span_of p x))
      → Covers (all_of (image_before a)) x
  by (inl was) = before_has a kept x (inl was)
  by (inr (inl (p, there, on))) = before_has a kept x (inr (p, inl there, on))
  by (inr (inr (h, p, is, done, on))) = in_doubt (image_before a) p x (accepted_before a p (h, is)) on
replied_has a r kept x (inr (q, listed, on)) =
    before_has a kept x
    (had (change_of a r) (offered_by (after_reply a r).act) a.pool (after_reply a r).pool (replies_change_pools a r kept) q x listed on)
