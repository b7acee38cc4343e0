-- Laws of a host's call, for its functions. Assumes nothing.
use Prim.Native.Nat.{ℕ, ◌≤◌, ◌<◌}
use mathlib.Core.Path.{◌≡◌, refl, sym, ◌∙◌}
use mathlib.Core.List.{List, [], ◌++◌}
use mathlib.Core.Bool.{true, false}
use mathlib.Core.Option.{get_or}
use Rattle.std.proofs.Common.{Option, None, Some}
use Rattle.std.specs.Option.{option_map_or}
use lib.Dec.{eqb}
use lib.ListN.{length, take, drop}
use lib.Seq.{length-take-le, take-length}
use borrow.Author.Tests.{ne_eqb, lt-ltb, le-ltb}
use Rattle.laws.specs.Tests.{by_test}
use Rattle.rules.specs.declared.Reply.{Reply}
use Rattle.rules.specs.declared.Board.{Board}
use Rattle.rules.specs.declared.Refusal.{Refusal}
use Rattle.laws.specs.Lists.{found}
use Rattle.rules.specs.Orders.{carried}
use Rattle.rules.specs.Soundness.{sound}
use Rattle.rules.specs.Replies.{number, refusal_of, refuse_unsound}
use Rattle.theory.specs.Calls.{take_padded}
use Rattle.theory.specs.Carried.{of_order}
use Rattle.theory.specs.Sound.{sound_iff}
use Rattle.search.specs.declared.Search.{Search}
use Rattle.search.specs.declared.Order.{Order}
use Rattle.search.specs.Rows.{as_order}
use Rattle.reply.proofs.Laws.{order_count, order-at}
use Rattle.image.specs.Image.{image_length, image_of, loaded_of}
use Rattle.image.proofs.RoundTrip.{accepted}
use Rattle.linecall.specs.LineCall.{line_call}
use Rattle.host.specs.Host.{refusal_answer, host_answer, host_image, hosted_by, host_call, sound_only, read_image}
use Rattle.host.specs.Host.{placed_answer, placed_in, order_answer, order_buffer}

-- ---- refusals

-- every refusal has a number
pub number_some : (r : Refusal) → eqb (number r) 0 ≡ false
number_some Refusal.NotSound = refl
number_some Refusal.JournalFull = refl
number_some Refusal.NoVerb = refl
number_some Refusal.BadLength = refl
number_some Refusal.BadNumber = refl
number_some Refusal.BadLabel = refl
number_some Refusal.NotRising = refl
number_some Refusal.OutOfRange = refl
number_some Refusal.NotAbsent = refl
number_some Refusal.ClaimsMeet = refl
number_some Refusal.IsAbsent = refl
number_some Refusal.IsHeld = refl
number_some Refusal.IsWaiting = refl
number_some Refusal.NotClaimed = refl
number_some Refusal.IsOpen = refl
number_some Refusal.NotOpen = refl
number_some Refusal.IsRunning = refl
number_some Refusal.BadRecord = refl
number_some Refusal.NoRecord = refl
number_some Refusal.HasRecord = refl

-- ---- reading an image, check by check

pub image_layout : (image : List ℕ) → None ≡ loaded_of image → None ≡ read_image image
unfolding read_image
image_layout image e = rw (← e)

pub image_unsound : (image : List ℕ) (b : Board) → Some b ≡ loaded_of image → sound b ≡ false → None ≡ read_image image
unfolding read_image
image_unsound image b e s = rw (← e, s)

pub image_sound : (image : List ℕ) (b : Board) → Some b ≡ loaded_of image → sound b ≡ true → Some b ≡ read_image image
unfolding read_image
image_sound image b e s = rw (← e, s)

only_sound : (k : Option Board) (b : Board) → Some b ≡ sound_only k → (Some b ≡ k) × (sound b ≡ true)
only_sound None b e = cc
only_sound (Some d) b e =
    by_test (sound d)
    (λ s. let f : Some b ≡ Some d = rw s at e in let g : b ≡ d = cc in (f, rw g s))
    (λ s. let f : Some b ≡ None = rw s at e in cc)

-- an image that is read holds a sound board, and is of its layout
pub image_read : (image : List ℕ) (b : Board) → Some b ≡ read_image image → (Some b ≡ loaded_of image) × (sound b ≡ true)
unfolding read_image
image_read image b e = only_sound (loaded_of image) b e

-- ---- the host's call

module _ (image line journal : List ℕ) (place : ℕ) where
  refused_by : (k : Option Board) → None ≡ sound_only k
      → option_map_or (λ b. hosted_by image (line_call b line journal place)) k (record { answer = host_answer 1 place; image = image; journal = journal })
      ≡ record { answer = host_answer 1 place; image = image; journal = journal }
  unfolding line_call refuse_unsound
  refused_by None e = refl
  refused_by (Some b) e =
      by_test (sound b)
      (λ s. let f : None ≡ Some b = rw s at e in cc)
      (λ s. rw s)

  -- an image that isn't read gets the answer of refusal 1
  pub host_refused : None ≡ read_image image → host_call image line journal place ≡ record { answer = host_answer 1 place; image = image; journal = journal }
  unfolding host_call read_image
  host_refused h = refused_by (loaded_of image) h

  pub host_called : (b : Board) → Some b ≡ loaded_of image → host_call image line journal place ≡ hosted_by image (line_call b line journal place)
  unfolding host_call
  host_called b e = rw (← e)

-- the host's answer and image, by the number of the refusal
pub answer_done : (n place : ℕ) → n ≡ 0 → host_answer n place ≡ place
answer_done n place e = rw e

pub image_done : (n : ℕ) (image : List ℕ) (b : Board) → n ≡ 0 → host_image n image b ≡ image_of b
image_done n image b e = rw e

pub image_kept : (n : ℕ) (image : List ℕ) (b : Board) → (n ≡ 0 → ⊥) → host_image n image b ≡ image
image_kept n image b h = rw (ne_eqb n 0 h)

-- the host's call, from what the line call gave
pub record Hosts (image line journal : List ℕ) (place n p : ℕ) (r : Reply) (j : List ℕ) : Type 0 where
  pub answer : (host_call image line journal place).answer ≡ host_answer n p
  pub image-after : (host_call image line journal place).image ≡ host_image n image r.board
  pub journal-after : (host_call image line journal place).journal ≡ j

pub host_by : (image line journal : List ℕ) (place n p : ℕ) (r : Reply) (j : List ℕ) (b : Board) → Some b ≡ loaded_of image
    → r ≡ (line_call b line journal place).reply → p ≡ (line_call b line journal place).place
    → j ≡ (line_call b line journal place).journal
    → n ≡ refusal_of r.answer → Hosts image line journal place n p r j
host_by image line journal place n p r j b e er ep ej en =
    let h = host_called image line journal place b e in
    rw (en, er, ep, ej)
    (record {
      answer = rw h;
      image-after = rw h;
      journal-after = rw h;
    })

pub accepted_long : (image : List ℕ) (b : Board) → Some b ≡ loaded_of image → length image ≡ image_length
accepted_long image b e = (accepted image b (sym e)).long

-- ---- the order of an image's board

pub order-refused : (image buffer : List ℕ) → None ≡ read_image image
    → (order_answer image buffer ≡ refusal_answer 1) × (order_buffer image buffer ≡ buffer)
unfolding order_answer order_buffer
order-refused image buffer h = (rw (← h), rw (← h))

-- a sound board has an order
pub sound-ordered : (b : Board) → sound b ≡ true → found (carried b) ≡ true
sound-ordered b s = let (o, c) = ((sound_iff b).0 s).order_exists in of_order b o c

-- the first n numbers of 32 are placed, or the buffer is too short for them
pub placed_short : (at : List ℕ) (n : ℕ) (buffer : List ℕ) → n ≤ length at → length buffer < n
    → (placed_answer (take n at) buffer ≡ refusal_answer 17) × (placed_in (take n at) buffer ≡ buffer)
placed_short at n buffer h k = let e = length-take-le n at h in
    let t = lt-ltb (length buffer) n k in (rw (e, t), rw (e, t))

-- what copying the part of the order leaves
pub placed_all : (at : List ℕ) (n : ℕ) (buffer after : List ℕ) → n ≤ length at → n ≤ length buffer
    → after ≡ take (length (take n at)) (take n at) ++ drop (length (take n at)) buffer
    → (n ≡ placed_answer (take n at) buffer) × (after ≡ placed_in (take n at) buffer)
placed_all at n buffer after h k g = let e = length-take-le n at h in let t = le-ltb (length buffer) n k in
    (rw (e, t), rw (e, t) (g ∙ rw (take-length (take n at), e)))

-- the order that was found beside a sound board
pub order-read : (image buffer at : List ℕ) (n : ℕ) (r : Order) (b : Board) → Some b ≡ loaded_of image → sound b ≡ true
    → r ≡ as_order (carried b) → r.kind ≡ Search.Found n → r.at ≡ at
    → (order_answer image buffer ≡ placed_answer (take n at) buffer) × (order_buffer image buffer ≡ placed_in (take n at) buffer)
unfolding order_answer order_buffer
order-read image buffer at n r b e s er en ea =
    let d = image_sound image b e s in
    let o = get_or (carried b) [] in
    let c : length o ≡ n = order_count (carried b) r n er en in
    let t : o ≡ take n at = sym (take_padded 0 o) ∙ rw (c, order-at (carried b) r n er en, ea) in
    (rw (← d, t), rw (← d, t))
