-- Outputs of a node that are sent in order.
use Rattle.std.proofs.Common.{◌≡◌, refl, sym, ap, ◌∙◌, subst, ℕ, zero, suc, ◌+◌, List, [], ◌∷◌, take, Option, Some, None, unwrap_or}
use Rattle.grasp_model_node.specs.Queue.{Queued, datagram, dial, send}
use Rattle.grasp_types.specs.declared.message.Message.{Message}
use Rattle.grasp_types.specs.declared.traffic.Output.{Output}
use Rattle.grasp_model_network.specs.Routes.{Route, route_of}
use Rattle.grasp_model_network.specs.Sending.{posted, having_sent, having_closed, handed_over}
use Rattle.grasp_model_network.specs.Setting.{Setting, numbered}
use Rattle.grasp_model_network.specs.Streams.{StreamState, change_at_end, with_number, with_sent}
use Rattle.grasp_model_network.specs.World.{WorldState, end_of, member_of}
use Rattle.grasp_laws_delivery.specs.Ready.{AreReady}
use Rattle.grasp_simulator.specs.Marking.{is_here}
use Rattle.grasp_simulator.specs.Sends.{CanSend, Puts, outputs_of, MaySend, HandsOver}
use Rattle.grasp_simulator.specs.WorldStands.{WorldKeeps}
use Rattle.grasp_simulator.specs.declared.world.World.{World}

-- the code keeps a network from which the rest is to be sent yet
pub record Handing (code : World) (s : Setting) (w : WorldState) (node life : ℕ) (queued : List Queued) (streams : List ℕ) (rest : List Output) : Type 0 where
  pub world : WorldState
  pub queue : List Queued
  pub closing : List ℕ
  pub may : MaySend code s world node life queue
  pub left : rest ≡ outputs_of queue closing
  pub same : handed_over s w life queued streams ≡ handed_over s world life queue closing

-- for each network whose outputs are to be sent
abbrev pub AllHanding : World → World → ℕ → ℕ → List Output → List Output → Type 0
AllHanding before code node life outputs rest = (s : Setting) (w : WorldState) (queued : List Queued) (streams : List ℕ) → MaySend before s w node life queued → outputs ≡ outputs_of queued streams
    → Handing code s w node life queued streams rest

-- ---- one output

same_talks : (w : WorldState) (m : Message) (r : Option Route) → (posted w m r).streams ≡ w.streams
same_talks w m None = refl
same_talks w m (Some route) = refl

head_in : Output → List Output → Output
head_in o [] = o
head_in o (x ∷ xs) = x

tail_in : List Output → List Output
tail_in [] = []
tail_in (x ∷ xs) = xs

can_now : (node : ℕ) (q : Queued) (qs : List Queued) (ts : List StreamState) → AreReady node (q ∷ qs) ts → CanSend node q ts
can_now node (datagram link to m) qs ts h = tt
can_now node (dial stream to) qs ts h = h.0
can_now node (send stream m) qs ts h = (h.0, h.1)

ready_then : (s : Setting) (w : WorldState) (node : ℕ) (q : Queued) (qs : List Queued) → AreReady node (q ∷ qs) w.streams → AreReady node qs (having_sent s node w q).streams
ready_then s w node (datagram link to m) qs h = subst (AreReady node qs) (sym (same_talks w m (route_of s (member_of w node) link to))) h
ready_then s w node (dial stream to) qs h = h.1 (w.dials + 1)
ready_then s w node (send stream m) qs h = h.2

same_lives : (w : WorldState) (m : Message) (r : Option Route) → (posted w m r).lives ≡ w.lives
same_lives w m None = refl
same_lives w m (Some route) = refl

lives_then : (s : Setting) (w : WorldState) (node : ℕ) (q : Queued) → (having_sent s node w q).lives ≡ w.lives
lives_then s w node (datagram link to m) = same_lives w m (route_of s (member_of w node) link to)
lives_then s w node (dial stream to) = refl
lives_then s w node (send stream m) = refl

hands_queued : (mid new : World) (node life : ℕ) (output : Output) (rest : List Output) (s : Setting) (w world : WorldState) (queued : List Queued) (streams closing : List ℕ) (q : Queued) (qs : List Queued) → Puts mid new node life output
    → MaySend mid s world node life (q ∷ qs) → output ∷ rest ≡ outputs_of (q ∷ qs) closing → handed_over s w life queued streams ≡ handed_over s world life (q ∷ qs) closing → Handing new s w node life queued streams rest
unfolding head_in tail_in handed_over
hands_queued mid new node life output rest s w world queued streams closing q qs puts may left same = record {
  world = having_sent s life world q;
  queue = qs;
  closing = closing;
  may = record {
    keeps = puts.queued s world q may.keeps may.own may.present (can_now life q qs world.streams may.ready) (ap (head_in output) left);
    own = ap (λ (ks : List ℕ). unwrap_or (numbered ks life) 0) (lives_then s world life q) ∙ may.own;
    present = ap (λ (ks : List ℕ). is_here ks life) (lives_then s world life q) ∙ may.present;
    ready = ready_then s world life q qs may.ready;
  };
  left = ap tail_in left;
  same = same;
}

hands_closing : (mid new : World) (node life : ℕ) (output : Output) (rest : List Output) (s : Setting) (w world : WorldState) (queued : List Queued) (streams : List ℕ) (k : ℕ) (ks : List ℕ) → Puts mid new node life output
    → MaySend mid s world node life [] → output ∷ rest ≡ outputs_of [] (k ∷ ks) → handed_over s w life queued streams ≡ handed_over s world life [] (k ∷ ks) → Handing new s w node life queued streams rest
unfolding head_in tail_in handed_over
hands_closing mid new node life output rest s w world queued streams k ks puts may left same = record {
  world = having_closed life world k;
  queue = [];
  closing = ks;
  may = record {
    keeps = puts.closed s world k may.keeps (ap (head_in output) left);
    own = may.own;
    present = may.present;
    ready = tt;
  };
  left = ap tail_in left;
  same = same;
}

hands_by : (mid new : World) (node life : ℕ) (output : Output) (rest : List Output) (s : Setting) (w world : WorldState) (queued : List Queued) (streams : List ℕ) (queue : List Queued) (closing : List ℕ) → Puts mid new node life output
    → MaySend mid s world node life queue → output ∷ rest ≡ outputs_of queue closing → handed_over s w life queued streams ≡ handed_over s world life queue closing → Handing new s w node life queued streams rest
hands_by mid new node life output rest s w world queued streams (q ∷ qs) closing puts may left same = hands_queued mid new node life output rest s w world queued streams closing q qs puts may left same
hands_by mid new node life output rest s w world queued streams [] (k ∷ ks) puts may left same = hands_closing mid new node life output rest s w world queued streams k ks puts may left same
hands_by mid new node life output rest s w world queued streams [] [] puts may left same = absurd (cc)

-- one more is sent
pub hands_one : (before mid new : World) (node life : ℕ) (outputs : List Output) (output : Output) (rest : List Output) → AllHanding before mid node life outputs (output ∷ rest) → Puts mid new node life output → AllHanding before new node life outputs rest
hands_one before mid new node life outputs output rest all puts s w queued streams may is =
    let h : Handing mid s w node life queued streams (output ∷ rest) = all s w queued streams may is in
    hands_by mid new node life output rest s w h.world queued streams h.queue h.closing puts h.may h.left h.same

-- ---- all of them

sent_by : (code : World) (s : Setting) (w world : WorldState) (node life : ℕ) (queued : List Queued) (streams : List ℕ) (queue : List Queued) (closing : List ℕ) → MaySend code s world node life queue → [] ≡ outputs_of queue closing
    → handed_over s w life queued streams ≡ handed_over s world life queue closing → WorldKeeps code s (handed_over s w life queued streams)
unfolding handed_over
sent_by code s w world node life queued streams [] [] may left same = subst (WorldKeeps code s) (sym same) may.keeps
sent_by code s w world node life queued streams [] (k ∷ ks) may left same = absurd (cc)
sent_by code s w world node life queued streams (q ∷ qs) closing may left same = absurd (cc)

pub hands_all : (before after : World) (node life : ℕ) (outputs rest : List Output) → AllHanding before after node life outputs rest → rest ≡ [] → HandsOver before after node life outputs
hands_all before after node life outputs rest all none s w queued streams may is =
    let h : Handing after s w node life queued streams rest = all s w queued streams may is in
    sent_by after s w h.world node life queued streams h.queue h.closing h.may (sym none ∙ h.left) h.same

-- ---- the first of what is queued

pub ready_front : (node max : ℕ) (qs : List Queued) (ts : List StreamState) → AreReady node qs ts → AreReady node (take max qs) ts
ready_front node zero qs ts h = tt
ready_front node (suc max) [] ts h = tt
ready_front node (suc max) (datagram link to m ∷ qs) ts h = ready_front node max qs ts h
ready_front node (suc max) (dial stream to ∷ qs) ts h = (h.0, λ k. ready_front node max qs (change_at_end ts (end_of node stream) (with_number k)) (h.1 k))
ready_front node (suc max) (send stream m ∷ qs) ts h = (h.0, h.1, ready_front node max qs (change_at_end ts (end_of node stream) (with_sent m)) h.2)
