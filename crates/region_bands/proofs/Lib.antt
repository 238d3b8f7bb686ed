mod LastLine
mod BandRows
mod SameBands
mod BandRise
mod BandPush
