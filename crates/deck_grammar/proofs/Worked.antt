-- Decks that are worked by hand: what they spell, by reading them from left to right.
use Rattle.std.proofs.Common.{◌≡◌, ℕ, zero, suc, Bool, true, false, List, [], ◌∷◌, refl}
use Rattle.std.specs.Prelude.{Option, Some, None}
use denote.Enum.Bare.{sameb}
use Rattle.deck_grammar.specs.contracts.keyword.Keyword.{the_type as keywords}
use Rattle.deck_grammar.specs.contracts.sign.Sign.{the_type as signs}
use Rattle.deck_grammar.specs.declared.keyword.Keyword.TheVariants as k
use Rattle.deck_grammar.specs.declared.sign.Sign.TheVariants as s
use Rattle.deck_grammar.specs.declared.kind.Kind.{Kind}
use Rattle.deck_grammar.specs.declared.kind.Kind.TheVariants as kinds
use Rattle.deck_grammar.specs.Lexemes.{Lexeme, lexeme}
use Rattle.deck_grammar.specs.Rules.{Rule, statements, Tree, Part, token, rule, Meaning}
use Rattle.deck_grammar.specs.Alternatives.{production}
use Rattle.deck_grammar.specs.Working.Choosing.{choice}

abbrev fits : Kind → Kind → Bool
fits (kinds.Keyword a) (kinds.Keyword b) = sameb keywords a b
fits (kinds.Sign a) (kinds.Sign b) = sameb signs a b
fits kinds.Name kinds.Name = true
fits kinds.Number kinds.Number = true
fits kinds.Text kinds.Text = true
fits kinds.Note kinds.Note = true
fits _ _ = false

abbrev Read : Rule → Type 0
Read o = Option (Tree o × List Lexeme)

-- what the parts spell at the front, and what is left behind it; the number bounds the steps
abbrev read : ℕ → (o : Rule) (parts : List Part) → Meaning parts (Tree o) → List Lexeme → Read o
read zero o parts meaning tokens = None
read (suc n) o [] meaning tokens = Some (meaning, tokens)
read (suc n) o (token k ∷ parts) meaning [] = None
read (suc n) o (token k ∷ parts) meaning (lexeme k' at bytes ∷ tokens) =
    elim (fits k k') [ true ↦ read n o parts (meaning (lexeme k' at bytes)) tokens | false ↦ None ]
read (suc n) o (rule q ∷ parts) meaning tokens =
    elim (read n q (production (choice q tokens)).parts (production (choice q tokens)).tree tokens) [ None ↦ None | Some p ↦ read n o parts (meaning p.0) p.1 ]

abbrev is_whole : Read statements → Bool
is_whole None = false
is_whole (Some p) = elim (p.1) [ [] ↦ true | t ∷ more ↦ false ]

abbrev is_deck : List Lexeme → Bool
is_deck tokens = is_whole (read 1000 statements (rule statements ∷ []) (λ all. all) tokens)

-- // user deck
-- TITLE "unit array"
-- LAYOUT SYSTEM GDSII
-- LAYOUT PATH "chip.gds"
-- LAYOUT PRIMARY "TOP"
-- DRC RESULTS DATABASE "chip.db" ASCII
-- DRC SUMMARY REPORT "chip.sum" REPLACE
-- PRECISION 1000
-- VARIABLE M1_W 0.12
-- VARIABLE M1_S M1_W - 0.02
-- LAYER ACT 1
-- LAYER POLY 2
-- LAYER CO 3
-- LAYER M1 4
-- LAYER VIA 5
-- LAYER M2 6
-- LAYER MAP 7 DATATYPE 5 107
-- LAYER NW 107
-- GATE = POLY AND ACT
-- ACT.W.1 { @ minimum active width
--   INT ACT < 0.15 ABUT < 90 SINGULAR REGION }
-- POLY.W.1 { INT POLY < 0.1 }
-- POLY.S.1 { EXT POLY < 0.2 }
-- GATE.A.1 { AREA GATE < 0.08 }
-- CO.A.1 { AREA CO != 0.0064 }
-- CO.E.1 { ENC CO M1 < 0.05 ABUT < 90 SINGULAR }
-- CO.X.1 { CO NOT INSIDE M1 }
-- M1.W.1 { @ minimum metal 1 width
--   INT M1 < M1_W ABUT < 90 SINGULAR REGION }
-- M1.S.1 { EXT M1 < M1_S ABUT < 90 SINGULAR }
-- M1.L.1 { X = INT [M1] < M1_W
--   LENGTH X > 0.5 }
-- VIA.X.1 { VIA NOT INSIDE M2 }
-- NW.A.1 { BIG = SIZE NW BY 0.2
--   AREA BIG > 1 }
users_deck : is_deck (lexeme (kinds.Keyword k.Title) 13 [] ∷ lexeme kinds.Text 19 [] ∷ lexeme (kinds.Keyword k.Layout) 32 [] ∷ lexeme (kinds.Keyword k.System) 39 [] ∷ lexeme (kinds.Keyword k.Gdsii) 46 [] ∷ lexeme (kinds.Keyword k.Layout) 52 [] ∷ lexeme (kinds.Keyword k.Path) 59 [] ∷ lexeme kinds.Text 64 [] ∷ lexeme (kinds.Keyword k.Layout) 75 [] ∷ lexeme (kinds.Keyword k.Primary) 82 [] ∷ lexeme kinds.Text 90 [] ∷ lexeme (kinds.Keyword k.Drc) 96 [] ∷ lexeme (kinds.Keyword k.Results) 100 [] ∷ lexeme (kinds.Keyword k.Database) 108 [] ∷ lexeme kinds.Text 117 [] ∷ lexeme (kinds.Keyword k.Ascii) 127 [] ∷ lexeme (kinds.Keyword k.Drc) 133 [] ∷ lexeme (kinds.Keyword k.Summary) 137 [] ∷ lexeme (kinds.Keyword k.Report) 145 [] ∷ lexeme kinds.Text 152 [] ∷ lexeme (kinds.Keyword k.Replace) 163 [] ∷ lexeme (kinds.Keyword k.Precision) 171 [] ∷ lexeme kinds.Number 181 [] ∷ lexeme (kinds.Keyword k.Variable) 186 [] ∷ lexeme kinds.Name 195 [] ∷ lexeme kinds.Number 200 [] ∷ lexeme (kinds.Keyword k.Variable) 205 [] ∷ lexeme kinds.Name 214 [] ∷ lexeme kinds.Name 219 [] ∷ lexeme (kinds.Sign s.Minus) 224 [] ∷ lexeme kinds.Number 226 [] ∷ lexeme (kinds.Keyword k.Layer) 231 [] ∷ lexeme kinds.Name 237 [] ∷ lexeme kinds.Number 241 [] ∷ lexeme (kinds.Keyword k.Layer) 243 [] ∷ lexeme kinds.Name 249 [] ∷ lexeme kinds.Number 254 [] ∷ lexeme (kinds.Keyword k.Layer) 256 [] ∷ lexeme kinds.Name 262 [] ∷ lexeme kinds.Number 265 [] ∷ lexeme (kinds.Keyword k.Layer) 267 [] ∷ lexeme kinds.Name 273 [] ∷ lexeme kinds.Number 276 [] ∷ lexeme (kinds.Keyword k.Layer) 278 [] ∷ lexeme kinds.Name 284 [] ∷ lexeme kinds.Number 288 [] ∷ lexeme (kinds.Keyword k.Layer) 290 [] ∷ lexeme kinds.Name 296 [] ∷ lexeme kinds.Number 299 [] ∷ lexeme (kinds.Keyword k.Layer) 301 [] ∷ lexeme (kinds.Keyword k.Map) 307 [] ∷ lexeme kinds.Number 311 [] ∷ lexeme (kinds.Keyword k.DataType) 313 [] ∷ lexeme kinds.Number 322 [] ∷ lexeme kinds.Number 324 [] ∷ lexeme (kinds.Keyword k.Layer) 328 [] ∷ lexeme kinds.Name 334 [] ∷ lexeme kinds.Number 337 [] ∷ lexeme kinds.Name 341 [] ∷ lexeme (kinds.Sign s.Equals) 346 [] ∷ lexeme kinds.Name 348 [] ∷ lexeme (kinds.Keyword k.And) 353 [] ∷ lexeme kinds.Name 357 [] ∷ lexeme kinds.Name 361 [] ∷ lexeme (kinds.Sign s.LeftBrace) 369 [] ∷ lexeme kinds.Note 371 [] ∷ lexeme (kinds.Keyword k.Int) 396 [] ∷ lexeme kinds.Name 400 [] ∷ lexeme (kinds.Sign s.Less) 404 [] ∷ lexeme kinds.Number 406 [] ∷ lexeme (kinds.Keyword k.Abut) 411 [] ∷ lexeme (kinds.Sign s.Less) 416 [] ∷ lexeme kinds.Number 418 [] ∷ lexeme (kinds.Keyword k.Singular) 421 [] ∷ lexeme (kinds.Keyword k.Region) 430 [] ∷ lexeme (kinds.Sign s.RightBrace) 437 [] ∷ lexeme kinds.Name 439 [] ∷ lexeme (kinds.Sign s.LeftBrace) 448 [] ∷ lexeme (kinds.Keyword k.Int) 450 [] ∷ lexeme kinds.Name 454 [] ∷ lexeme (kinds.Sign s.Less) 459 [] ∷ lexeme kinds.Number 461 [] ∷ lexeme (kinds.Sign s.RightBrace) 465 [] ∷ lexeme kinds.Name 467 [] ∷ lexeme (kinds.Sign s.LeftBrace) 476 [] ∷ lexeme (kinds.Keyword k.Ext) 478 [] ∷ lexeme kinds.Name 482 [] ∷ lexeme (kinds.Sign s.Less) 487 [] ∷ lexeme kinds.Number 489 [] ∷ lexeme (kinds.Sign s.RightBrace) 493 [] ∷ lexeme kinds.Name 495 [] ∷ lexeme (kinds.Sign s.LeftBrace) 504 [] ∷ lexeme (kinds.Keyword k.Area) 506 [] ∷ lexeme kinds.Name 511 [] ∷ lexeme (kinds.Sign s.Less) 516 [] ∷ lexeme kinds.Number 518 [] ∷ lexeme (kinds.Sign s.RightBrace) 523 [] ∷ lexeme kinds.Name 525 [] ∷ lexeme (kinds.Sign s.LeftBrace) 532 [] ∷ lexeme (kinds.Keyword k.Area) 534 [] ∷ lexeme kinds.Name 539 [] ∷ lexeme (kinds.Sign s.NotEqual) 542 [] ∷ lexeme kinds.Number 545 [] ∷ lexeme (kinds.Sign s.RightBrace) 552 [] ∷ lexeme kinds.Name 554 [] ∷ lexeme (kinds.Sign s.LeftBrace) 561 [] ∷ lexeme (kinds.Keyword k.Enc) 563 [] ∷ lexeme kinds.Name 567 [] ∷ lexeme kinds.Name 570 [] ∷ lexeme (kinds.Sign s.Less) 573 [] ∷ lexeme kinds.Number 575 [] ∷ lexeme (kinds.Keyword k.Abut) 580 [] ∷ lexeme (kinds.Sign s.Less) 585 [] ∷ lexeme kinds.Number 587 [] ∷ lexeme (kinds.Keyword k.Singular) 590 [] ∷ lexeme (kinds.Sign s.RightBrace) 599 [] ∷ lexeme kinds.Name 601 [] ∷ lexeme (kinds.Sign s.LeftBrace) 608 [] ∷ lexeme kinds.Name 610 [] ∷ lexeme (kinds.Keyword k.Not) 613 [] ∷ lexeme (kinds.Keyword k.Inside) 617 [] ∷ lexeme kinds.Name 624 [] ∷ lexeme (kinds.Sign s.RightBrace) 627 [] ∷ lexeme kinds.Name 629 [] ∷ lexeme (kinds.Sign s.LeftBrace) 636 [] ∷ lexeme kinds.Note 638 [] ∷ lexeme (kinds.Keyword k.Int) 664 [] ∷ lexeme kinds.Name 668 [] ∷ lexeme (kinds.Sign s.Less) 671 [] ∷ lexeme kinds.Name 673 [] ∷ lexeme (kinds.Keyword k.Abut) 678 [] ∷ lexeme (kinds.Sign s.Less) 683 [] ∷ lexeme kinds.Number 685 [] ∷ lexeme (kinds.Keyword k.Singular) 688 [] ∷ lexeme (kinds.Keyword k.Region) 697 [] ∷ lexeme (kinds.Sign s.RightBrace) 704 [] ∷ lexeme kinds.Name 706 [] ∷ lexeme (kinds.Sign s.LeftBrace) 713 [] ∷ lexeme (kinds.Keyword k.Ext) 715 [] ∷ lexeme kinds.Name 719 [] ∷ lexeme (kinds.Sign s.Less) 722 [] ∷ lexeme kinds.Name 724 [] ∷ lexeme (kinds.Keyword k.Abut) 729 [] ∷ lexeme (kinds.Sign s.Less) 734 [] ∷ lexeme kinds.Number 736 [] ∷ lexeme (kinds.Keyword k.Singular) 739 [] ∷ lexeme (kinds.Sign s.RightBrace) 748 [] ∷ lexeme kinds.Name 750 [] ∷ lexeme (kinds.Sign s.LeftBrace) 757 [] ∷ lexeme kinds.Name 759 [] ∷ lexeme (kinds.Sign s.Equals) 761 [] ∷ lexeme (kinds.Keyword k.Int) 763 [] ∷ lexeme (kinds.Sign s.LeftSquare) 767 [] ∷ lexeme kinds.Name 768 [] ∷ lexeme (kinds.Sign s.RightSquare) 770 [] ∷ lexeme (kinds.Sign s.Less) 772 [] ∷ lexeme kinds.Name 774 [] ∷ lexeme (kinds.Keyword k.Length) 781 [] ∷ lexeme kinds.Name 788 [] ∷ lexeme (kinds.Sign s.Greater) 790 [] ∷ lexeme kinds.Number 792 [] ∷ lexeme (kinds.Sign s.RightBrace) 796 [] ∷ lexeme kinds.Name 798 [] ∷ lexeme (kinds.Sign s.LeftBrace) 806 [] ∷ lexeme kinds.Name 808 [] ∷ lexeme (kinds.Keyword k.Not) 812 [] ∷ lexeme (kinds.Keyword k.Inside) 816 [] ∷ lexeme kinds.Name 823 [] ∷ lexeme (kinds.Sign s.RightBrace) 826 [] ∷ lexeme kinds.Name 828 [] ∷ lexeme (kinds.Sign s.LeftBrace) 835 [] ∷ lexeme kinds.Name 837 [] ∷ lexeme (kinds.Sign s.Equals) 841 [] ∷ lexeme (kinds.Keyword k.Size) 843 [] ∷ lexeme kinds.Name 848 [] ∷ lexeme (kinds.Keyword k.By) 851 [] ∷ lexeme kinds.Number 854 [] ∷ lexeme (kinds.Keyword k.Area) 860 [] ∷ lexeme kinds.Name 865 [] ∷ lexeme (kinds.Sign s.Greater) 869 [] ∷ lexeme kinds.Number 871 [] ∷ lexeme (kinds.Sign s.RightBrace) 873 [] ∷ []) ≡ true
users_deck = refl

-- DRC MAXIMUM RESULTS ALL DRC MAXIMUM RESULTS 2*3 DRC SELECT CHECK A B A { M1 } DRC UNSELECT CHECK C
-- DRC SUMMARY REPORT s APPEND LAYER L 1 2 3 LAYER MAP 1 TEXTTYPE 2 3 VARIABLE v -(1+2)*3/a%4^-b
-- X { @ a
--  N = COPY M1 M1 AND M2 OR M3 NOT M4 XOR M5 OR EDGE M6 INSIDE M7 NOT OUTSIDE EDGE M8 COINCIDENT EDGE M9 NOT CUT M1
--  RECTANGLE (M1 NOT M2) AREA M1 <= 3 LENGTH M1 == 2 AREA M1 > 1 < 4 LENGTH M2 >= 1 <= 3 SIZE M1 BY -.5 UNDEROVER ANGLE (M1) == 90
--  EXPAND EDGE M1 OUTSIDE BY 1 INT M1 M2 <= 4 OPPOSITE REGION EXT [M1] M2 < 1 SINGULAR ABUT < 90 EXT M1 [M2] < 3 ENC M1 M2 < 5 SQUARE
--  EXT M1 < 2 NOTCH REGION SINGULAR EXT [M1] < 2 SPACE INT [M1] < 2 (M1) }
every_alternative : is_deck (lexeme (kinds.Keyword k.Drc) 0 [] ∷ lexeme (kinds.Keyword k.Maximum) 4 [] ∷ lexeme (kinds.Keyword k.Results) 12 [] ∷ lexeme (kinds.Keyword k.All) 20 [] ∷ lexeme (kinds.Keyword k.Drc) 24 [] ∷ lexeme (kinds.Keyword k.Maximum) 28 [] ∷ lexeme (kinds.Keyword k.Results) 36 [] ∷ lexeme kinds.Number 44 [] ∷ lexeme (kinds.Sign s.Times) 45 [] ∷ lexeme kinds.Number 46 [] ∷ lexeme (kinds.Keyword k.Drc) 48 [] ∷ lexeme (kinds.Keyword k.Select) 52 [] ∷ lexeme (kinds.Keyword k.Check) 59 [] ∷ lexeme kinds.Name 65 [] ∷ lexeme kinds.Name 67 [] ∷ lexeme kinds.Name 69 [] ∷ lexeme (kinds.Sign s.LeftBrace) 71 [] ∷ lexeme kinds.Name 73 [] ∷ lexeme (kinds.Sign s.RightBrace) 76 [] ∷ lexeme (kinds.Keyword k.Drc) 78 [] ∷ lexeme (kinds.Keyword k.Unselect) 82 [] ∷ lexeme (kinds.Keyword k.Check) 91 [] ∷ lexeme kinds.Name 97 [] ∷ lexeme (kinds.Keyword k.Drc) 99 [] ∷ lexeme (kinds.Keyword k.Summary) 103 [] ∷ lexeme (kinds.Keyword k.Report) 111 [] ∷ lexeme kinds.Name 118 [] ∷ lexeme (kinds.Keyword k.Append) 120 [] ∷ lexeme (kinds.Keyword k.Layer) 127 [] ∷ lexeme kinds.Name 133 [] ∷ lexeme kinds.Number 135 [] ∷ lexeme kinds.Number 137 [] ∷ lexeme kinds.Number 139 [] ∷ lexeme (kinds.Keyword k.Layer) 141 [] ∷ lexeme (kinds.Keyword k.Map) 147 [] ∷ lexeme kinds.Number 151 [] ∷ lexeme (kinds.Keyword k.TextType) 153 [] ∷ lexeme kinds.Number 162 [] ∷ lexeme kinds.Number 164 [] ∷ lexeme (kinds.Keyword k.Variable) 166 [] ∷ lexeme kinds.Name 175 [] ∷ lexeme (kinds.Sign s.Minus) 177 [] ∷ lexeme (kinds.Sign s.LeftRound) 178 [] ∷ lexeme kinds.Number 179 [] ∷ lexeme (kinds.Sign s.Plus) 180 [] ∷ lexeme kinds.Number 181 [] ∷ lexeme (kinds.Sign s.RightRound) 182 [] ∷ lexeme (kinds.Sign s.Times) 183 [] ∷ lexeme kinds.Number 184 [] ∷ lexeme (kinds.Sign s.Over) 185 [] ∷ lexeme kinds.Name 186 [] ∷ lexeme (kinds.Sign s.Modulo) 187 [] ∷ lexeme kinds.Number 188 [] ∷ lexeme (kinds.Sign s.Power) 189 [] ∷ lexeme (kinds.Sign s.Minus) 190 [] ∷ lexeme kinds.Name 191 [] ∷ lexeme kinds.Name 193 [] ∷ lexeme (kinds.Sign s.LeftBrace) 195 [] ∷ lexeme kinds.Note 197 [] ∷ lexeme kinds.Name 202 [] ∷ lexeme (kinds.Sign s.Equals) 204 [] ∷ lexeme (kinds.Keyword k.Copy) 206 [] ∷ lexeme kinds.Name 211 [] ∷ lexeme kinds.Name 214 [] ∷ lexeme (kinds.Keyword k.And) 217 [] ∷ lexeme kinds.Name 221 [] ∷ lexeme (kinds.Keyword k.Or) 224 [] ∷ lexeme kinds.Name 227 [] ∷ lexeme (kinds.Keyword k.Not) 230 [] ∷ lexeme kinds.Name 234 [] ∷ lexeme (kinds.Keyword k.Xor) 237 [] ∷ lexeme kinds.Name 241 [] ∷ lexeme (kinds.Keyword k.Or) 244 [] ∷ lexeme (kinds.Keyword k.Edge) 247 [] ∷ lexeme kinds.Name 252 [] ∷ lexeme (kinds.Keyword k.Inside) 255 [] ∷ lexeme kinds.Name 262 [] ∷ lexeme (kinds.Keyword k.Not) 265 [] ∷ lexeme (kinds.Keyword k.Outside) 269 [] ∷ lexeme (kinds.Keyword k.Edge) 277 [] ∷ lexeme kinds.Name 282 [] ∷ lexeme (kinds.Keyword k.Coincident) 285 [] ∷ lexeme (kinds.Keyword k.Edge) 296 [] ∷ lexeme kinds.Name 301 [] ∷ lexeme (kinds.Keyword k.Not) 304 [] ∷ lexeme (kinds.Keyword k.Cut) 308 [] ∷ lexeme kinds.Name 312 [] ∷ lexeme (kinds.Keyword k.Rectangle) 316 [] ∷ lexeme (kinds.Sign s.LeftRound) 326 [] ∷ lexeme kinds.Name 327 [] ∷ lexeme (kinds.Keyword k.Not) 330 [] ∷ lexeme kinds.Name 334 [] ∷ lexeme (kinds.Sign s.RightRound) 336 [] ∷ lexeme (kinds.Keyword k.Area) 338 [] ∷ lexeme kinds.Name 343 [] ∷ lexeme (kinds.Sign s.LessOrEqual) 346 [] ∷ lexeme kinds.Number 349 [] ∷ lexeme (kinds.Keyword k.Length) 351 [] ∷ lexeme kinds.Name 358 [] ∷ lexeme (kinds.Sign s.EqualTo) 361 [] ∷ lexeme kinds.Number 364 [] ∷ lexeme (kinds.Keyword k.Area) 366 [] ∷ lexeme kinds.Name 371 [] ∷ lexeme (kinds.Sign s.Greater) 374 [] ∷ lexeme kinds.Number 376 [] ∷ lexeme (kinds.Sign s.Less) 378 [] ∷ lexeme kinds.Number 380 [] ∷ lexeme (kinds.Keyword k.Length) 382 [] ∷ lexeme kinds.Name 389 [] ∷ lexeme (kinds.Sign s.GreaterOrEqual) 392 [] ∷ lexeme kinds.Number 395 [] ∷ lexeme (kinds.Sign s.LessOrEqual) 397 [] ∷ lexeme kinds.Number 400 [] ∷ lexeme (kinds.Keyword k.Size) 402 [] ∷ lexeme kinds.Name 407 [] ∷ lexeme (kinds.Keyword k.By) 410 [] ∷ lexeme (kinds.Sign s.Minus) 413 [] ∷ lexeme kinds.Number 414 [] ∷ lexeme (kinds.Keyword k.UnderOver) 417 [] ∷ lexeme (kinds.Keyword k.Angle) 427 [] ∷ lexeme (kinds.Sign s.LeftRound) 433 [] ∷ lexeme kinds.Name 434 [] ∷ lexeme (kinds.Sign s.RightRound) 436 [] ∷ lexeme (kinds.Sign s.EqualTo) 438 [] ∷ lexeme kinds.Number 441 [] ∷ lexeme (kinds.Keyword k.Expand) 445 [] ∷ lexeme (kinds.Keyword k.Edge) 452 [] ∷ lexeme kinds.Name 457 [] ∷ lexeme (kinds.Keyword k.Outside) 460 [] ∷ lexeme (kinds.Keyword k.By) 468 [] ∷ lexeme kinds.Number 471 [] ∷ lexeme (kinds.Keyword k.Int) 473 [] ∷ lexeme kinds.Name 477 [] ∷ lexeme kinds.Name 480 [] ∷ lexeme (kinds.Sign s.LessOrEqual) 483 [] ∷ lexeme kinds.Number 486 [] ∷ lexeme (kinds.Keyword k.Opposite) 488 [] ∷ lexeme (kinds.Keyword k.Region) 497 [] ∷ lexeme (kinds.Keyword k.Ext) 504 [] ∷ lexeme (kinds.Sign s.LeftSquare) 508 [] ∷ lexeme kinds.Name 509 [] ∷ lexeme (kinds.Sign s.RightSquare) 511 [] ∷ lexeme kinds.Name 513 [] ∷ lexeme (kinds.Sign s.Less) 516 [] ∷ lexeme kinds.Number 518 [] ∷ lexeme (kinds.Keyword k.Singular) 520 [] ∷ lexeme (kinds.Keyword k.Abut) 529 [] ∷ lexeme (kinds.Sign s.Less) 534 [] ∷ lexeme kinds.Number 536 [] ∷ lexeme (kinds.Keyword k.Ext) 539 [] ∷ lexeme kinds.Name 543 [] ∷ lexeme (kinds.Sign s.LeftSquare) 546 [] ∷ lexeme kinds.Name 547 [] ∷ lexeme (kinds.Sign s.RightSquare) 549 [] ∷ lexeme (kinds.Sign s.Less) 551 [] ∷ lexeme kinds.Number 553 [] ∷ lexeme (kinds.Keyword k.Enc) 555 [] ∷ lexeme kinds.Name 559 [] ∷ lexeme kinds.Name 562 [] ∷ lexeme (kinds.Sign s.Less) 565 [] ∷ lexeme kinds.Number 567 [] ∷ lexeme (kinds.Keyword k.Square) 569 [] ∷ lexeme (kinds.Keyword k.Ext) 577 [] ∷ lexeme kinds.Name 581 [] ∷ lexeme (kinds.Sign s.Less) 584 [] ∷ lexeme kinds.Number 586 [] ∷ lexeme (kinds.Keyword k.Notch) 588 [] ∷ lexeme (kinds.Keyword k.Region) 594 [] ∷ lexeme (kinds.Keyword k.Singular) 601 [] ∷ lexeme (kinds.Keyword k.Ext) 610 [] ∷ lexeme (kinds.Sign s.LeftSquare) 614 [] ∷ lexeme kinds.Name 615 [] ∷ lexeme (kinds.Sign s.RightSquare) 617 [] ∷ lexeme (kinds.Sign s.Less) 619 [] ∷ lexeme kinds.Number 621 [] ∷ lexeme (kinds.Keyword k.Space) 623 [] ∷ lexeme (kinds.Keyword k.Int) 629 [] ∷ lexeme (kinds.Sign s.LeftSquare) 633 [] ∷ lexeme kinds.Name 634 [] ∷ lexeme (kinds.Sign s.RightSquare) 636 [] ∷ lexeme (kinds.Sign s.Less) 638 [] ∷ lexeme kinds.Number 640 [] ∷ lexeme (kinds.Sign s.LeftRound) 642 [] ∷ lexeme kinds.Name 643 [] ∷ lexeme (kinds.Sign s.RightRound) 645 [] ∷ lexeme (kinds.Sign s.RightBrace) 647 [] ∷ []) ≡ true
every_alternative = refl

-- X { EXT M1 < 2 SPACE NOTCH }
second_option_alike : is_deck (lexeme kinds.Name 0 [] ∷ lexeme (kinds.Sign s.LeftBrace) 2 [] ∷ lexeme (kinds.Keyword k.Ext) 4 [] ∷ lexeme kinds.Name 8 [] ∷ lexeme (kinds.Sign s.Less) 11 [] ∷ lexeme kinds.Number 13 [] ∷ lexeme (kinds.Keyword k.Space) 15 [] ∷ lexeme (kinds.Keyword k.Notch) 21 [] ∷ lexeme (kinds.Sign s.RightBrace) 27 [] ∷ []) ≡ false
second_option_alike = refl

-- X { EXT M1 M2 < 2 NOTCH }
notch_of_two : is_deck (lexeme kinds.Name 0 [] ∷ lexeme (kinds.Sign s.LeftBrace) 2 [] ∷ lexeme (kinds.Keyword k.Ext) 4 [] ∷ lexeme kinds.Name 8 [] ∷ lexeme kinds.Name 11 [] ∷ lexeme (kinds.Sign s.Less) 14 [] ∷ lexeme kinds.Number 16 [] ∷ lexeme (kinds.Keyword k.Notch) 18 [] ∷ lexeme (kinds.Sign s.RightBrace) 24 [] ∷ []) ≡ false
notch_of_two = refl

-- X { EXT [M1] < 2 REGION }
region_with_brackets : is_deck (lexeme kinds.Name 0 [] ∷ lexeme (kinds.Sign s.LeftBrace) 2 [] ∷ lexeme (kinds.Keyword k.Ext) 4 [] ∷ lexeme (kinds.Sign s.LeftSquare) 8 [] ∷ lexeme kinds.Name 9 [] ∷ lexeme (kinds.Sign s.RightSquare) 11 [] ∷ lexeme (kinds.Sign s.Less) 13 [] ∷ lexeme kinds.Number 15 [] ∷ lexeme (kinds.Keyword k.Region) 17 [] ∷ lexeme (kinds.Sign s.RightBrace) 24 [] ∷ []) ≡ false
region_with_brackets = refl

-- X { EXT [M1] [M2] < 2 }
both_in_brackets : is_deck (lexeme kinds.Name 0 [] ∷ lexeme (kinds.Sign s.LeftBrace) 2 [] ∷ lexeme (kinds.Keyword k.Ext) 4 [] ∷ lexeme (kinds.Sign s.LeftSquare) 8 [] ∷ lexeme kinds.Name 9 [] ∷ lexeme (kinds.Sign s.RightSquare) 11 [] ∷ lexeme (kinds.Sign s.LeftSquare) 13 [] ∷ lexeme kinds.Name 14 [] ∷ lexeme (kinds.Sign s.RightSquare) 16 [] ∷ lexeme (kinds.Sign s.Less) 18 [] ∷ lexeme kinds.Number 20 [] ∷ lexeme (kinds.Sign s.RightBrace) 22 [] ∷ []) ≡ false
both_in_brackets = refl

-- X { ENC M1 < 2 }
enclosure_of_one : is_deck (lexeme kinds.Name 0 [] ∷ lexeme (kinds.Sign s.LeftBrace) 2 [] ∷ lexeme (kinds.Keyword k.Enc) 4 [] ∷ lexeme kinds.Name 8 [] ∷ lexeme (kinds.Sign s.Less) 11 [] ∷ lexeme kinds.Number 13 [] ∷ lexeme (kinds.Sign s.RightBrace) 15 [] ∷ []) ≡ false
enclosure_of_one = refl

-- DRC SELECT CHECK A = M1
selected_name_defined : is_deck (lexeme (kinds.Keyword k.Drc) 0 [] ∷ lexeme (kinds.Keyword k.Select) 4 [] ∷ lexeme (kinds.Keyword k.Check) 11 [] ∷ lexeme kinds.Name 17 [] ∷ lexeme (kinds.Sign s.Equals) 19 [] ∷ lexeme kinds.Name 21 [] ∷ []) ≡ false
selected_name_defined = refl

-- X = AND M1
infix_first : is_deck (lexeme kinds.Name 0 [] ∷ lexeme (kinds.Sign s.Equals) 2 [] ∷ lexeme (kinds.Keyword k.And) 4 [] ∷ lexeme kinds.Name 8 [] ∷ []) ≡ false
infix_first = refl

-- X =
empty_layer : is_deck (lexeme kinds.Name 0 [] ∷ lexeme (kinds.Sign s.Equals) 2 [] ∷ []) ≡ false
empty_layer = refl

-- X { M1
open_check : is_deck (lexeme kinds.Name 0 [] ∷ lexeme (kinds.Sign s.LeftBrace) 2 [] ∷ lexeme kinds.Name 4 [] ∷ []) ≡ false
open_check = refl

-- LAYER M1
number_missing : is_deck (lexeme (kinds.Keyword k.Layer) 0 [] ∷ lexeme kinds.Name 6 [] ∷ []) ≡ false
number_missing = refl

-- X = INT M1
bound_missing : is_deck (lexeme kinds.Name 0 [] ∷ lexeme (kinds.Sign s.Equals) 2 [] ∷ lexeme (kinds.Keyword k.Int) 4 [] ∷ lexeme kinds.Name 8 [] ∷ []) ≡ false
bound_missing = refl

-- X = NOT COPY M1
negated_copy : is_deck (lexeme kinds.Name 0 [] ∷ lexeme (kinds.Sign s.Equals) 2 [] ∷ lexeme (kinds.Keyword k.Not) 4 [] ∷ lexeme (kinds.Keyword k.Copy) 8 [] ∷ lexeme kinds.Name 13 [] ∷ []) ≡ false
negated_copy = refl
