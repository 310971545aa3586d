-- The table of sets holds what it should: one test, computed over all entries at five marks; over fewer marks a box is the same.
use mathlib.Core.Path.{◌≡◌, refl, sym, ◌∙◌}
use mathlib.Core.Bool.{Bool, true, false, beq, ◌&&◌, false≢true}
use mathlib.Core.List.{List, [], ◌∷◌}
use Prim.Native.Nat.{ℕ, ◌^◌, ◌<◌, ◌≤◌}
use native.Mathlib.Omega.{arith}
use lib.Dec.{ltb}
use lib.ListN.{get_or}
use borrow.Author.Tests.{ltb-true}
use Rattle.boxes.specs.Boxes.{agrees, contains}
use Rattle.ground.specs.Every.{every}
use Rattle.ground.proofs.Every.{every_at}
use Rattle.ground.proofs.Cases.{if, below_or, and_left, and_right}
use Rattle.boxes.proofs.Boxes.{contains_combination}
use Rattle.boxes.proofs.Numbers.{boxes_mono}
use Rattle.boxes.proofs.Choices.{contains_wide}
use Rattle.sets.specs.Sets.{set_marks, has, Sets}
use Rattle.sets.proofs.Bits.{has_high}

abbrev pub sets : List ℕ
sets =
    1 ∷ 2 ∷ 3 ∷ 4 ∷ 8 ∷ 12 ∷ 5 ∷ 10 ∷ 15 ∷ 16 ∷ 32 ∷ 48 ∷ 64 ∷ 128 ∷ 192 ∷ 80 ∷ 160 ∷ 240 ∷ 17 ∷ 34 ∷ 51 ∷ 68 ∷ 136 ∷ 204 ∷ 85 ∷ 170 ∷ 255 ∷
    256 ∷ 512 ∷ 768 ∷ 1024 ∷ 2048 ∷ 3072 ∷ 1280 ∷ 2560 ∷ 3840 ∷ 4096 ∷ 8192 ∷ 12288 ∷ 16384 ∷ 32768 ∷ 49152 ∷ 20480 ∷ 40960 ∷ 61440 ∷ 4352 ∷
    8704 ∷ 13056 ∷ 17408 ∷ 34816 ∷ 52224 ∷ 21760 ∷ 43520 ∷ 65280 ∷ 257 ∷ 514 ∷ 771 ∷ 1028 ∷ 2056 ∷ 3084 ∷ 1285 ∷ 2570 ∷ 3855 ∷ 4112 ∷ 8224 ∷
    12336 ∷ 16448 ∷ 32896 ∷ 49344 ∷ 20560 ∷ 41120 ∷ 61680 ∷ 4369 ∷ 8738 ∷ 13107 ∷ 17476 ∷ 34952 ∷ 52428 ∷ 21845 ∷ 43690 ∷ 65535 ∷ 65536 ∷
    131072 ∷ 196608 ∷ 262144 ∷ 524288 ∷ 786432 ∷ 327680 ∷ 655360 ∷ 983040 ∷ 1048576 ∷ 2097152 ∷ 3145728 ∷ 4194304 ∷ 8388608 ∷ 12582912 ∷
    5242880 ∷ 10485760 ∷ 15728640 ∷ 1114112 ∷ 2228224 ∷ 3342336 ∷ 4456448 ∷ 8912896 ∷ 13369344 ∷ 5570560 ∷ 11141120 ∷ 16711680 ∷ 16777216 ∷
    33554432 ∷ 50331648 ∷ 67108864 ∷ 134217728 ∷ 201326592 ∷ 83886080 ∷ 167772160 ∷ 251658240 ∷ 268435456 ∷ 536870912 ∷ 805306368 ∷
    1073741824 ∷ 2147483648 ∷ 3221225472 ∷ 1342177280 ∷ 2684354560 ∷ 4026531840 ∷ 285212672 ∷ 570425344 ∷ 855638016 ∷ 1140850688 ∷
    2281701376 ∷ 3422552064 ∷ 1426063360 ∷ 2852126720 ∷ 4278190080 ∷ 16842752 ∷ 33685504 ∷ 50528256 ∷ 67371008 ∷ 134742016 ∷ 202113024 ∷
    84213760 ∷ 168427520 ∷ 252641280 ∷ 269484032 ∷ 538968064 ∷ 808452096 ∷ 1077936128 ∷ 2155872256 ∷ 3233808384 ∷ 1347420160 ∷ 2694840320 ∷
    4042260480 ∷ 286326784 ∷ 572653568 ∷ 858980352 ∷ 1145307136 ∷ 2290614272 ∷ 3435921408 ∷ 1431633920 ∷ 2863267840 ∷ 4294901760 ∷ 65537 ∷
    131074 ∷ 196611 ∷ 262148 ∷ 524296 ∷ 786444 ∷ 327685 ∷ 655370 ∷ 983055 ∷ 1048592 ∷ 2097184 ∷ 3145776 ∷ 4194368 ∷ 8388736 ∷ 12583104 ∷
    5242960 ∷ 10485920 ∷ 15728880 ∷ 1114129 ∷ 2228258 ∷ 3342387 ∷ 4456516 ∷ 8913032 ∷ 13369548 ∷ 5570645 ∷ 11141290 ∷ 16711935 ∷ 16777472 ∷
    33554944 ∷ 50332416 ∷ 67109888 ∷ 134219776 ∷ 201329664 ∷ 83887360 ∷ 167774720 ∷ 251662080 ∷ 268439552 ∷ 536879104 ∷ 805318656 ∷
    1073758208 ∷ 2147516416 ∷ 3221274624 ∷ 1342197760 ∷ 2684395520 ∷ 4026593280 ∷ 285217024 ∷ 570434048 ∷ 855651072 ∷ 1140868096 ∷
    2281736192 ∷ 3422604288 ∷ 1426085120 ∷ 2852170240 ∷ 4278255360 ∷ 16843009 ∷ 33686018 ∷ 50529027 ∷ 67372036 ∷ 134744072 ∷ 202116108 ∷
    84215045 ∷ 168430090 ∷ 252645135 ∷ 269488144 ∷ 538976288 ∷ 808464432 ∷ 1077952576 ∷ 2155905152 ∷ 3233857728 ∷ 1347440720 ∷ 2694881440 ∷
    4042322160 ∷ 286331153 ∷ 572662306 ∷ 858993459 ∷ 1145324612 ∷ 2290649224 ∷ 3435973836 ∷ 1431655765 ∷ 2863311530 ∷ 4294967295 ∷ []

set_right : ℕ → ℕ → Bool
set_right b s = ltb s (2 ^ 32) && every (2 ^ set_marks) (λ c. beq (has s c) (contains set_marks b c))

sets_computed : every (3 ^ set_marks) (λ b. set_right b (get_or sets b 0)) ≡ true
unfolding every set_right has agrees contains
sets_computed = refl

beq_same : (x y : Bool) → beq x y ≡ true → x ≡ y
beq_same true true e = refl
beq_same true false e = absurd (false≢true e)
beq_same false true e = absurd (false≢true e)
beq_same false false e = refl

pub sets_hold : (m : ℕ) → m ≤ set_marks → Sets m sets
unfolding set_right
sets_hold m h b l =
    let g = boxes_mono h in
    let s = get_or sets b 0 in
    let r : set_right b s ≡ true = every_at (3 ^ set_marks) (λ a. set_right a (get_or sets a 0)) b sets_computed (omega arith) in
    let lt : s < 2 ^ 32 = ltb-true _ _ (and_left _ _ r) in (
      lt,
      λ c. below_or c 32
          (λ q. beq_same _ _ (every_at (2 ^ set_marks) (λ d. beq (has s d) (contains set_marks b d)) c (and_right (ltb s (2 ^ 32)) _ r) q))
          (λ q. has_high 32 c s lt q ∙ sym (if (contains set_marks b c) (λ t. absurd (omega (arith, contains_combination set_marks b c t))) (λ t. t)))
          ∙ contains_wide m set_marks b c h l,
    )
