-- With which disk a first life begins, and what may be left at the end of a life.
use Rattle.std.proofs.Common.{◌≡◌, refl, sym, ap, ◌∙◌, arith, List, []}
use Rattle.std.proofs.lemmas.List.{append-nil}
use Rattle.grasp_agent.specs.States.{first_agent}
use Rattle.grasp_disk.specs.Calls.{DiskState, after_calls, bytes_of, disk_size, state_of}
use Rattle.grasp_disk.specs.Laws.{ReadBytesMayStand}
use Rattle.grasp_disk.specs.Memory.{all_kept, zeros}
use Rattle.grasp_laws_agent.proofs.LawKept.{kept_first}
use Rattle.grasp_laws_lives.specs.Stores.{FirstDisksAreThere, FirstDisksOpenRoots, LivesCanEnd, LivesEndAnywhere, ahead, asked_in, behind}
use Rattle.grasp_laws_kept.proofs.First.{zeros_stand}
use Rattle.grasp_laws_kept.specs.Disks.{DiskStands}
use Rattle.grasp_laws_members.specs.Acts.{agent_after}
use Rattle.grasp_laws_store.proofs.Ordering.{behind_fit, pools_have_their_images}
use Rattle.grasp_laws_store.proofs.Saves.{saves_do}
use Rattle.grasp_laws_store.specs.Ordering.{IsFitToKeep}
use Rattle.grasp_laws_store.specs.Saves.{SaveDoes}
use Rattle.grasp_pool.proofs.Opening.{image_opens, opened_pool}
use Rattle.grasp_pool.specs.Answers.{IsOpened, IsReopened}
use Rattle.grasp_pool.specs.Functions.{add, each, pool_of, pool_of_image}
use Rattle.grasp_pool.specs.Holdings.{Holding}
use Rattle.grasp_pool.specs.declared.image.PoolImage.{PoolImage}
use Rattle.grasp_pool.specs.declared.roots.RootPrefix.{RootPrefix}
use Rattle.grasp_store.specs.Current.{current_in, image_or, number_of}
use Rattle.grasp_store.specs.Images.{image_of}
use Rattle.grasp_store.specs.Saving.{before_calls, save_calls}
use Rattle.grasp_types.specs.Prefix.{AddressBlock as Prefix}

-- ---- the first disk

holding : List Prefix → List Prefix → List Prefix → Holding
holding free reserved doubtful = record { free = free; reserved = reserved; doubtful = doubtful }

none_added : (ps qs : List Prefix) → ps ≡ [] → each add ps qs ≡ qs
unfolding each
none_added ps qs none = ap (λ (xs : List Prefix). each add xs qs) none

-- where two pools have one image, and nothing reserved, they are one
same_pool : (h k : Holding) → h.reserved ≡ [] → k.reserved ≡ [] → image_of h ≡ image_of k → h ≡ k
unfolding holding
same_pool h k none also same =
    ap (λ (ps : List Prefix). holding ps h.reserved h.doubtful) (ap (λ (i : PoolImage). i.free) same)
    ∙ (ap (λ (ps : List Prefix). holding k.free ps h.doubtful) (none ∙ sym also)
    ∙ ap (λ (ps : List Prefix). holding k.free k.reserved ps)
    (sym (none_added h.reserved h.doubtful none) ∙ (ap (λ (i : PoolImage). i.doubtful) same ∙ none_added k.reserved k.doubtful also)))

module _ (roots : List RootPrefix) (opened : IsOpened roots (pool_of roots)) where
  abbrev pool : Holding
  pool = pool_of roots

  abbrev image : PoolImage
  image = image_of pool

  fit : IsFitToKeep (image_of (pool_of roots))
  fit = behind_fit (first_agent pool) (kept_first pool (opened_pool roots opened) opened.reserved)

  opens : IsReopened (image_of (pool_of roots)) (pool_of_image (image_of (pool_of roots)))
  opens = image_opens image fit.good.few fit.good.disjoint

  pub image_opens_pool : pool_of_image (image_of (pool_of roots)) ≡ pool_of roots
  image_opens_pool = same_pool (pool_of_image image) pool opens.reserved opened.reserved (pools_have_their_images image fit.good fit.order)

pub first_disks_open_roots : FirstDisksOpenRoots
first_disks_open_roots roots bytes opened first = ap pool_of_image first.holds.has ∙ image_opens_pool roots opened

-- ---- the end of a life

pub lives_can_end : ReadBytesMayStand → LivesCanEnd
lives_can_end read a log acts = ahead (record {
  later = before_calls (bytes_of (asked_in a acts log)) (agent_after a acts);
  made = [];
  all = sym (append-nil (before_calls (bytes_of (asked_in a acts log)) (agent_after a acts)));
  becomes = read (state_of (asked_in a acts log));
})

pub lives_end_anywhere : LivesEndAnywhere
lives_end_anywhere = record {
  ahead_of = λ a log acts later made content all becomes. ahead (record { later = later; made = made; all = all; becomes = becomes });
  behind_last = λ a log earlier x later made content own all becomes.
      behind earlier x refl own (record { later = later; made = made; all = all; becomes = becomes });
}

-- ---- a first disk: one on which nothing was written, once the image of the roots was saved on it

module _ (roots : List RootPrefix) (opened : IsOpened roots (pool_of roots)) where
  abbrev blank : DiskState
  blank = all_kept (zeros disk_size)

  stands : DiskStands roots (zeros disk_size) (pool_of roots) 0
  stands = zeros_stand disk_size refl roots

  saved : SaveDoes blank (image_of (pool_of roots))
  saved = saves_do blank (image_of (pool_of roots)) refl stands.holds.sound (fit roots opened).good (omega (arith, stands.number))

pub first_disks_are_there : FirstDisksAreThere
first_disks_are_there roots opened =
    let done : SaveDoes (blank roots opened) (image_of (pool_of roots)) = saved roots opened in (
      (after_calls (save_calls (zeros disk_size) (image_of (pool_of roots))) (blank roots opened)).bytes,
      record {
        holds = record { sound = done.sound; has = ap (image_or []) done.current };
        number = omega (arith, ap number_of done.current, (stands roots opened).number);
      },
    )
