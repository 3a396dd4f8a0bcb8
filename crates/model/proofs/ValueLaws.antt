-- The values of the declared types Load and Book hold all of a book that was read: it can be had back from them.
-- Assumes nothing.
use mathlib.Core.Path.{◌≡◌, refl, sym, ap, ◌∙◌}
use mathlib.Core.List.{List, [], map, map-map}
use mathlib.Core.Logic.{◌⊎◌, inl, inr}
use Prim.Native.Nat.{ℕ, ◌+◌, ◌-◌, ◌*◌, ◌/◌, ◌%◌, ◌<◌, ◌≤◌}
use native.Mathlib.Omega.{arith}
use lib.IntN.{ℤ, pos, negsuc, nat_abs}
use lib.ListN.{length, get_or, take}
use Rattle.model.specs.declared.Load.{Load}
use Rattle.model.specs.declared.Book.{Book}
use Rattle.model.specs.Lists.{upto, Every}
use Rattle.model.specs.Refusals.{done}
use Rattle.model.specs.Book.{Power, no_power, Settings, Problem, read_book}
use Rattle.model.specs.Choice.{no_setting, setting_of, least_of, power_in}
use Rattle.model.specs.Values.{Held, Offers, raised, lowered, power_of, load_value, book_value, setting_in, settings_in, problem_of}
use Rattle.model.specs.Valid.{Labelled, SettingSmall, ValidBook}
use Rattle.model.specs.Index.{up, down}
use Rattle.model.specs.Bounds.{most_loads}
use Rattle.model.proofs.ListLaws.{every_at}
use Rattle.model.proofs.UptoLaws.{get_d_upto, take-upto, from_is, upto_is}
use Rattle.model.proofs.IntegerLaws.{split, sub_pos, sub_neg, abs_sub}
use Rattle.model.proofs.NumberLaws.{at_place, offered-number, offered-few, every_offered, setting_small}
use Rattle.model.proofs.ValidLaws.{book-valid, load_labelled}

pub raised_back : (q : ℤ) → nat_abs q ≤ 32768 → lowered (raised q) ≡ q
unfolding raised
raised_back (pos n) h = sub_pos (n + 32768) 32768 (omega arith) ∙ ap {B = ℤ} pos (omega arith)
raised_back (negsuc n) h = sub_neg (32767 - n) 32768 (omega arith) ∙ ap {B = ℤ} negsuc (omega arith)

pub raised-small : (q : ℤ) → nat_abs q ≤ 32768 → raised q ≤ 65536
unfolding raised
raised-small (pos n) h = omega arith
raised-small (negsuc n) h = omega arith

-- what is raised exceeds 32,768 as q exceeds 0
pub raised_parts : (q : ℤ) → nat_abs q ≤ 32768 → raised q + down q ≡ 32768 + up q
unfolding raised
raised_parts (pos n) h = omega arith
raised_parts (negsuc n) h = omega arith

pub lowered_back : (n : ℕ) → raised (lowered n) ≡ n
unfolding raised
lowered_back n = go (split n 32768)
  where
    go : (n < 32768) ⊎ (32768 ≤ n) → raised (lowered n) ≡ n
    go (inl x) = ap raised (sub_neg n 32768 x) ∙ (omega arith)
    go (inr x) = ap raised (sub_pos n 32768 x) ∙ (omega arith)

pub lowered-small : (n : ℕ) → n ≤ 65536 → nat_abs (lowered n) ≤ 32768
lowered-small n h = omega (arith, abs_sub n 32768)

-- place 4 c + s is setting c in slot s
pub power_at_lem : (vs : Settings) (c s : ℕ) → s < 4 → power_of vs (4 * c + s) ≡ power_in s (setting_of vs c)
unfolding power_of
power_at_lem vs c s h =
    let low : (4 * c + s) % 4 ≡ s = omega arith in
    let high : (4 * c + s) / 4 ≡ c = omega arith in
    rw (low, high)

-- the power that a value holds there
abbrev held_power : Load → ℕ → ℕ → Power
held_power l c s = record { p = get_or l.actives (4 * c + s) 0; q = lowered (get_or l.reactives (4 * c + s) 0) }

module _ (t : ℕ) (vs : Settings) (four : t ≤ 4) (labels : Labelled vs) (powers : Every (λ v. length v.powers ≡ t) vs) (small : Every SettingSmall vs) where
  power_kept : (c s : ℕ) → Offers vs c → s < t → held_power (load_value vs) c s ≡ power_in s (setting_of vs c)
  unfolding load_value
  power_kept c s h k =
      let place : 4 * c + s < 16 = omega (arith, offered-few vs labels c h) in
      let at : power_of vs (4 * c + s) ≡ power_in s (setting_of vs c) = power_at_lem vs c s (omega arith) in
      let p_at : get_or (map (λ i. (power_of vs i).p) (upto 16)) (4 * c + s) 0 ≡ (power_in s (setting_of vs c)).p
      = get_d_upto (λ i. (power_of vs i).p) 16 (4 * c + s) 0 place ∙ ap (λ (x : Power). x.p) at in
      let q_at : lowered (get_or (map (λ i. raised (power_of vs i).q) (upto 16)) (4 * c + s) 0) ≡ (power_in s (setting_of vs c)).q
      = ap lowered (get_d_upto (λ i. raised (power_of vs i).q) 16 (4 * c + s) 0 place ∙ ap (λ (x : Power). raised x.q) at)
      ∙ raised_back (power_in s (setting_of vs c)).q ((setting_small vs small c).reactive s) in
      λ i. record { p = p_at i; q = q_at i }

  setting_kept : (c : ℕ) → Offers vs c → setting_in t (load_value vs) c ≡ setting_of vs c
  unfolding load_value
  setting_kept c h =
      let number_is : c ≡ (setting_of vs c).number = sym (offered-number vs labels c h) in
      let worth-is : get_or (map (λ i. (setting_of vs i).worth) (upto 4)) c 0 ≡ (setting_of vs c).worth
      = get_d_upto (λ i. (setting_of vs i).worth) 4 c 0 (offered-few vs labels c h) in
      let sized : length (setting_of vs c).powers ≡ t = every_offered (λ v. length v.powers ≡ t) vs labels powers c h in
      let powers_are : (setting_in t (load_value vs) c).powers ≡ (setting_of vs c).powers
      = ap (λ n. (setting_in n (load_value vs) c).powers) (sym sized)
      ∙ upto_is (held_power (load_value vs) c) (setting_of vs c).powers no_power (λ s k. power_kept c s h (omega arith)) in
      λ i. record { number = number_is i; worth = worth-is i; powers = powers_are i }

  -- the settings of a load, had back from its value
  value_kept : settings_in t (load_value vs) ≡ vs
  unfolding load_value
  value_kept =
      from_is (setting_in t (load_value vs)) (least_of vs) vs no_setting
      (λ k l. setting_kept (least_of vs + k) (omega arith, omega arith) ∙ at_place vs labels k l)

-- a valid book, had back from its value
pub valid-kept : (b : Problem) → ValidBook b → problem_of (book_value b) ≡ b
unfolding problem_of book_value
valid-kept b g =
    let limits_are : take (length b.limits) (map (λ s. get_or b.limits s 0) (upto 4)) ≡ b.limits
    = take-upto (λ s. get_or b.limits s 0) (length b.limits) 4 g.slots_few ∙ upto_is (λ s. get_or b.limits s 0) b.limits 0 (λ i l. refl) in
    let loads_are : map (settings_in (length b.limits)) (take (length b.loads) (map (λ k. load_value (get_or b.loads k [])) (upto most_loads))) ≡ b.loads
    = ap (map (settings_in (length b.limits))) (take-upto (λ k. load_value (get_or b.loads k [])) (length b.loads) most_loads g.loads_few)
    ∙ map-map (settings_in (length b.limits)) (λ k. load_value (get_or b.loads k [])) (upto (length b.loads))
    ∙ upto_is (λ k. settings_in (length b.limits) (load_value (get_or b.loads k []))) b.loads [] (λ k l.
    value_kept (length b.limits) (get_or b.loads k []) g.slots_few
    (load_labelled g k l)
    (every_at (Every (λ v. length v.powers ≡ length b.limits)) b.loads [] g.loads.powers k l)
    (every_at (Every SettingSmall) b.loads [] g.loads.small k l)) in
    λ i. record { fineness = b.fineness; ratio = b.ratio; budget = b.budget; limits = limits_are i; loads = loads_are i }

pub held_kept : (v : Book) (h : Held v) → problem_of v ≡ h.b
held_kept v h = ap problem_of h.is ∙ valid-kept h.b h.valid

-- a book that was read: nothing of it is lost
pub book-kept : (bytes : List ℕ) (b : Problem) → read_book bytes ≡ done b → problem_of (book_value b) ≡ b
book-kept bytes b e = valid-kept b (book-valid bytes b e)
