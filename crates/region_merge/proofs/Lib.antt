mod Overlapping
