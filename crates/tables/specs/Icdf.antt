-- Document 01, 'Modules, leaves first', 1: the three tables as lists, and their numbers by place.
use Rattle.std.specs.Prelude.{ℕ, ◌+◌, ◌-◌, ◌*◌, ◌/◌, ◌%◌, cond, ◌&&◌, List, [], ◌∷◌, ltb, leb, get_or}
use Rattle.lists.specs.Counted.{up_to}

unfoldable pub size_table : List ℕ
size_table = 23989 ∷ 17673 ∷ 11991 ∷ 7865 ∷ 4845 ∷ 2365 ∷ []

-- one row for each line context
unfoldable pub row_table : List (List ℕ)
row_table = (10253 ∷ 7017 ∷ []) ∷ (28754 ∷ 27535 ∷ []) ∷ (29220 ∷ 28605 ∷ []) ∷ (19769 ∷ 12 ∷ []) ∷ []

-- one block for each n from 2, in it one row for each context
unfoldable pub color_table : List (List (List ℕ))
color_table =
    ((4628 ∷ 0 ∷ 0 ∷ 0 ∷ 0 ∷ 0 ∷ 0 ∷ []) ∷
    (16384 ∷ 0 ∷ 0 ∷ 0 ∷ 0 ∷ 0 ∷ 0 ∷ []) ∷
    (24186 ∷ 0 ∷ 0 ∷ 0 ∷ 0 ∷ 0 ∷ 0 ∷ []) ∷
    (5355 ∷ 0 ∷ 0 ∷ 0 ∷ 0 ∷ 0 ∷ 0 ∷ []) ∷
    (2339 ∷ 0 ∷ 0 ∷ 0 ∷ 0 ∷ 0 ∷ 0 ∷ []) ∷ []) ∷
    ((7418 ∷ 3742 ∷ 0 ∷ 0 ∷ 0 ∷ 0 ∷ 0 ∷ []) ∷
    (21405 ∷ 7495 ∷ 0 ∷ 0 ∷ 0 ∷ 0 ∷ 0 ∷ []) ∷
    (25927 ∷ 4189 ∷ 0 ∷ 0 ∷ 0 ∷ 0 ∷ 0 ∷ []) ∷
    (11418 ∷ 6756 ∷ 0 ∷ 0 ∷ 0 ∷ 0 ∷ 0 ∷ []) ∷
    (2195 ∷ 1122 ∷ 0 ∷ 0 ∷ 0 ∷ 0 ∷ 0 ∷ []) ∷ []) ∷
    ((9062 ∷ 5806 ∷ 3708 ∷ 0 ∷ 0 ∷ 0 ∷ 0 ∷ []) ∷
    (22792 ∷ 10252 ∷ 5386 ∷ 0 ∷ 0 ∷ 0 ∷ 0 ∷ []) ∷
    (26077 ∷ 7308 ∷ 3534 ∷ 0 ∷ 0 ∷ 0 ∷ 0 ∷ []) ∷
    (13859 ∷ 8843 ∷ 4365 ∷ 0 ∷ 0 ∷ 0 ∷ 0 ∷ []) ∷
    (2460 ∷ 1692 ∷ 950 ∷ 0 ∷ 0 ∷ 0 ∷ 0 ∷ []) ∷ []) ∷
    ((8652 ∷ 5811 ∷ 4282 ∷ 2827 ∷ 0 ∷ 0 ∷ 0 ∷ []) ∷
    (23200 ∷ 12296 ∷ 8474 ∷ 3826 ∷ 0 ∷ 0 ∷ 0 ∷ []) ∷
    (27062 ∷ 7525 ∷ 4728 ∷ 2362 ∷ 0 ∷ 0 ∷ 0 ∷ []) ∷
    (12663 ∷ 9786 ∷ 5744 ∷ 3857 ∷ 0 ∷ 0 ∷ 0 ∷ []) ∷
    (1871 ∷ 1426 ∷ 1002 ∷ 569 ∷ 0 ∷ 0 ∷ 0 ∷ []) ∷ []) ∷
    ((11944 ∷ 8541 ∷ 6842 ∷ 5309 ∷ 3502 ∷ 0 ∷ 0 ∷ []) ∷
    (24627 ∷ 13779 ∷ 11169 ∷ 6586 ∷ 4192 ∷ 0 ∷ 0 ∷ []) ∷
    (27516 ∷ 8428 ∷ 6318 ∷ 4330 ∷ 2143 ∷ 0 ∷ 0 ∷ []) ∷
    (13249 ∷ 10073 ∷ 7181 ∷ 5796 ∷ 4345 ∷ 0 ∷ 0 ∷ []) ∷
    (2385 ∷ 1878 ∷ 1521 ∷ 1115 ∷ 618 ∷ 0 ∷ 0 ∷ []) ∷ []) ∷
    ((11140 ∷ 8256 ∷ 6895 ∷ 5714 ∷ 4637 ∷ 3229 ∷ 0 ∷ []) ∷
    (24740 ∷ 14504 ∷ 12155 ∷ 7344 ∷ 5656 ∷ 3862 ∷ 0 ∷ []) ∷
    (26279 ∷ 10526 ∷ 8307 ∷ 6374 ∷ 4418 ∷ 2258 ∷ 0 ∷ []) ∷
    (10720 ∷ 8339 ∷ 5778 ∷ 4824 ∷ 4351 ∷ 3194 ∷ 0 ∷ []) ∷
    (1967 ∷ 1563 ∷ 1296 ∷ 1040 ∷ 763 ∷ 463 ∷ 0 ∷ []) ∷ []) ∷
    ((10297 ∷ 7685 ∷ 6784 ∷ 5875 ∷ 5114 ∷ 4018 ∷ 2865 ∷ []) ∷
    (25226 ∷ 15711 ∷ 13617 ∷ 9218 ∷ 7309 ∷ 5702 ∷ 3964 ∷ []) ∷
    (25186 ∷ 12331 ∷ 10040 ∷ 8146 ∷ 6253 ∷ 4189 ∷ 2136 ∷ []) ∷
    (10666 ∷ 8624 ∷ 5852 ∷ 4617 ∷ 3922 ∷ 3556 ∷ 2615 ∷ []) ∷
    (2244 ∷ 1881 ∷ 1612 ∷ 1375 ∷ 1142 ∷ 857 ∷ 487 ∷ []) ∷ []) ∷ []

-- number k of a row, 0 where there is none
unfoldable pub size_icdf : ℕ → ℕ
size_icdf k = get_or size_table k 0

unfoldable pub row_icdf : ℕ → ℕ → ℕ
row_icdf context k = cond (ltb context 4 && ltb k 2) (get_or (get_or row_table context []) k 0) 0

-- the rows of the colours, one behind the other
unfoldable pub color_rows : List ℕ
color_rows = up_to (λ b. get_or (get_or color_table (b / 5) []) (b % 5) []) 35

-- number k of the row of n colours and a context
unfoldable pub color_icdf : ℕ → ℕ → ℕ → ℕ
color_icdf n context k =
    cond (leb 2 n && leb n 8 && ltb context 5 && ltb k 7) (get_or color_rows (((n - 2) * 5 + context) * 7 + k) 0) 0
